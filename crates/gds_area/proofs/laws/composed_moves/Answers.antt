use Rattle.gds_area.proofs.MovesAfter.{moves_after, areas_after}
use Rattle.gds_area.proofs.laws.composed_moves.Goals as goal

pub returns-clause-points : goal.returns-clause-points
returns-clause-points c = moves_after

pub returns-clause-areas : goal.returns-clause-areas
returns-clause-areas c = areas_after
