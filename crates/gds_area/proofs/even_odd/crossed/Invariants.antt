use Rattle.std.proofs.Common.{◌≡◌, drop}
use Rattle.gds_area.specs.Areas.{has_some}
use Rattle.gds_area.specs.Sweep.{swept_all}
use Rattle.gds_area.proofs.Enclosing.{crossed_behind}
use Rattle.gds_area.proofs.even_odd.crossed.Given as goal

abbrev pub invariant-loop-end : goal.invariant-loop-end
invariant-loop-end l = crossed_behind l.row l.xs.items (drop l.end-index l.ends) ≡ has_some (swept_all l.ends)
