use Rattle.dogleg_route.proofs.OnePiecing.{one_piece_routing}
use Rattle.dogleg_route.proofs.laws.one_piece_routing.Goals as goal

pub returns : goal.returns
returns c = one_piece_routing
