use Rattle.dogleg_route.proofs.Cycles.{no_piece_cycle}
use Rattle.dogleg_route.proofs.laws.no_piece_cycle.Goals as goal

pub returns : goal.returns
returns c = no_piece_cycle
