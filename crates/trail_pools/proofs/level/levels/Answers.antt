use Rattle.std.proofs.Common.{rules, ◌≡◌}
use Rattle.trail_pools.specs.Leveled.{levels_of}
use Rattle.trail_pools.proofs.Leveled.{all_few}
use Rattle.trail_pools.proofs.level.levels.Goals as goal

pub returns-clause-few : goal.returns-clause-few
returns-clause-few c =
    let levels : c.from_vec.result ≡ levels_of c.args.fingers.now c.args.counted.now c.args.order.now = search rules in
    all_few c.args.fingers.now c.args.counted.now c.args.order.now c.from_vec.result c.requires levels
