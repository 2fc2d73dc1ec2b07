use Rattle.dogleg_route.proofs.Marks.{apart}
use Rattle.dogleg_route.proofs.laws.pieces_apart.Goals as goal

pub returns : goal.returns
returns c = apart
