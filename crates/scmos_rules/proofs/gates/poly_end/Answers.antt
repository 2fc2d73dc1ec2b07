use Rattle.scmos_rules.proofs.Directions.{poly_ends}
use Rattle.scmos_rules.proofs.gates.poly_end.Goals as goal

pub returns : goal.returns
returns c = poly_ends c.args.shapes.now.rects 4 c.in_ok-right.right c.in_ok-left.left c.in_ok-up.up c.in_ok-down.down c.in_ok-region.region c.in_ok-right.ensures c.in_ok-left.ensures c.in_ok-up.ensures c.in_ok-down.ensures c.in_ok-region.ensures
