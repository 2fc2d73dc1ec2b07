use Rattle.trail_pools.proofs.Leveled.{level_is}
use Rattle.trail_pools.proofs.level.level.Goals as goal

pub returns : goal.returns
returns c =
    level_is c.args.fingers.now c.args.counted.now c.args.order.now c.args.gate.now c.args.later.now
    c.in_ok-open_places.field-0 c.in_ok-open_places-2.field-0 c.in_ok-open_choices.field-0 c.requires.order
    c.in_ok-open_places.ensures c.in_ok-open_places-2.ensures c.in_ok-open_choices.ensures
