use Rattle.row_compact.proofs.Least.{one_least}
use Rattle.row_compact.proofs.lines.one_least.Goals as goal

pub returns : goal.returns
returns c = record { one = one_least }
