use Rattle.std.proofs.Common.{◌≡◌, drop}
use Rattle.std.specs.List.{list_any}
use Rattle.gds_area.specs.Points.{steps_from, is_slanted, has_slant}
use Rattle.gds_area.proofs.point.slanted.Given as goal

abbrev pub invariant-loop-to : goal.invariant-loop-to
invariant-loop-to l = list_any is_slanted (steps_from l.from (drop l.to-index l.rest)) ≡ has_slant l.points
