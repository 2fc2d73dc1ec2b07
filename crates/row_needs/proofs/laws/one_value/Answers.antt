use Rattle.row_needs.proofs.OneValue.{one_value}
use Rattle.row_needs.proofs.laws.one_value.Goals as goal

pub returns : goal.returns
returns c = one_value
