use Rattle.row_cycles.specs.Noted.{state_of}
use Rattle.row_cycles.proofs.Noted.{none_noted}
use Rattle.cycle_search.proofs.progress.Progress.new.Goals as goal

pub returns-clause-noted : goal.returns-clause-noted
returns-clause-noted c = λ k. none_noted state_of k c.new.result c.new-2.result c.new.ensures
