use Rattle.std.proofs.Common.{sym}
use Rattle.lef_read.proofs.Gridding.{sides_of}
use Rattle.lef_read.proofs.grid.on_grid.Goals as goal

pub invariant_of-result : goal.invariant_of-result
invariant_of-result c = sides_of c.args.unit (record { x1 = c.sides.inside.x1; y1 = c.sides.inside.y1; x2 = c.sides.inside.x2; y2 = c.sides.inside.y2 }) c.in_ok-x1.x1 c.in_ok-y1.y1 c.in_ok-x2.x2 c.in_ok-y2.y2 c.requires c.sides.invariant (sym c.in_ok-x1.ensures.is) (sym c.in_ok-y1.ensures.is) (sym c.in_ok-x2.ensures.is) (sym c.in_ok-y2.ensures.is)
    (record { least = c.in_ok-x1.ensures.least; most = c.in_ok-x1.ensures.most }) (record { least = c.in_ok-y1.ensures.least; most = c.in_ok-y1.ensures.most }) (record { least = c.in_ok-x2.ensures.least; most = c.in_ok-x2.ensures.most }) (record { least = c.in_ok-y2.ensures.least; most = c.in_ok-y2.ensures.most })
