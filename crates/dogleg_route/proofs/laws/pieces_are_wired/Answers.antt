use Rattle.dogleg_route.proofs.Wired.{wired}
use Rattle.dogleg_route.proofs.laws.pieces_are_wired.Goals as goal

pub returns : goal.returns
returns c = wired
