use Rattle.std.proofs.Common.{rules, ◌≡◌, length, ◌∙◌}
use Rattle.trail_pools.proofs.Leveled.{no_level}
use Rattle.trail_pools.proofs.level.+list.Goals as goal

pub returns-in_default : goal.returns-in_default
returns-in_default t c =
    let none : length c.args.order.now ≡ 0 = search rules in
    c.new.ensures.items ∙ no_level c.args.fingers.now c.args.counted.now c.args.order.now none
