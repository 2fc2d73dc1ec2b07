use Rattle.std.proofs.Common.{◌≡◌}
use Rattle.gds_area.specs.Points.{first_points}
use Rattle.gds_area.proofs.point.points.Given as goal

abbrev pub invariant-loop-at : goal.invariant-loop-at
invariant-loop-at l = l.points.items ≡ first_points l.at l.xy
