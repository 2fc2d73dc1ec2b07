use Rattle.scmos_rules.proofs.Directions.{field_meets}
use Rattle.scmos_rules.proofs.gates.field_distance.Goals as goal

pub returns : goal.returns
returns c = field_meets c.args.shapes.now.rects 2 c.in_ok-right.right c.in_ok-left.left c.in_ok-up.up c.in_ok-down.down c.in_ok-region.region c.in_ok-right.ensures c.in_ok-left.ensures c.in_ok-up.ensures c.in_ok-down.ensures c.in_ok-region.ensures
