use Rattle.first_route.proofs.OneFirst.{one_first}
use Rattle.first_route.proofs.laws.one_first.Goals as goal

pub returns : goal.returns
returns c = one_first
