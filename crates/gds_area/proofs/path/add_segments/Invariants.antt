use Rattle.std.proofs.Common.{◌≡◌, length}
use Rattle.gds_area.specs.Paths.{segments}
use Rattle.gds_area.specs.Areas.{put}
use Rattle.gds_area.proofs.path.add_segments.Given as goal

abbrev pub invariant-loop-rest : goal.invariant-loop-rest
invariant-loop-rest l = put l.draw_context l.rects (segments l.reach.half l.reach.ends l.past l.rest) ≡ put l.draw_context l.fn.rects (segments l.reach.half l.reach.ends l.reach.ends l.points)

abbrev pub decreases-loop-rest : goal.decreases-loop-rest
decreases-loop-rest l = length l.rest
