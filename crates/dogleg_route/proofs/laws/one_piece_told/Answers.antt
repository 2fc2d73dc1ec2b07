use Rattle.dogleg_route.proofs.OnePieceTold.{one_told}
use Rattle.dogleg_route.proofs.laws.one_piece_told.Goals as goal

pub returns : goal.returns
returns c = one_told
