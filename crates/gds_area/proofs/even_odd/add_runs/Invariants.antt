use Rattle.std.proofs.Common.{◌≡◌, map, length}
use Rattle.gds_area.specs.EvenOdd.{runs}
use Rattle.gds_area.specs.Areas.{area_of, put}
use Rattle.gds_area.proofs.even_odd.add_runs.Given as goal

abbrev pub invariant-loop-rest : goal.invariant-loop-rest
invariant-loop-rest l = put l.draw_context l.rects (map area_of (runs l.low.y l.high.y l.rest)) ≡ put l.draw_context l.fn.rects (map area_of (runs l.low.y l.high.y l.xs))

abbrev pub decreases-loop-rest : goal.decreases-loop-rest
decreases-loop-rest l = length l.rest
