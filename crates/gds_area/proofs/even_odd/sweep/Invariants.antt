use Rattle.std.proofs.Common.{◌≡◌, map, drop}
use Rattle.gds_area.specs.Areas.{area_of, put}
use Rattle.gds_area.specs.Sweep.{swept, swept_all}
use Rattle.gds_area.proofs.even_odd.sweep.Given as goal

abbrev pub invariant-loop-end : goal.invariant-loop-end
invariant-loop-end l = put l.draw_context l.rects (map area_of (swept l.row l.xs.items (drop l.end-index l.ends))) ≡ put l.draw_context l.fn.rects (map area_of (swept_all l.ends))
