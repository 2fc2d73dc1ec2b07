use Rattle.track_search.proofs.Bare.{bare_none, free_none, too_few_none}
use Rattle.row_cycles.proofs.Noted.{none_noted}
use Rattle.track_check.specs.Noted.{state_of}
use Rattle.track_search.proofs.progress.Progress.new.Goals as goal

pub returns-clause-noted : goal.returns-clause-noted
returns-clause-noted c = λ value pins limit k. record {
  places = none_noted state_of k c.new.result c.new-2.result c.new.ensures;
  too_few = too_few_none value k c.new-3.result c.new-3.ensures;
  bare = bare_none k c.new.result c.new-3.result c.new.ensures c.new-3.ensures;
  free = free_none pins limit k c.new-3.result c.new-3.ensures;
}
