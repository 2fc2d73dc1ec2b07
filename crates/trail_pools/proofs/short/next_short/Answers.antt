use Rattle.std.proofs.Common.{rules, ◌<◌, length}
use Rattle.trail_pools.proofs.LongFronts.{long_next}
use Rattle.trail_pools.proofs.short.next_short.Goals as goal

pub returns-then-most-len-clause-many : goal.returns-then-most-len-clause-many
returns-then-most-len-clause-many c =
    let some : c.args.most < length c.add_beside.new.all.keys = search rules in
    long_next c.args.row c.args.y c.args.most c.args.front.now c.loop-choice.all.keys c.add_beside.new.all.keys
    c.loop-choice.choice-index c.choice-item.result c.loop-choice-test.true c.choice-item.is c.loop-choice.invariant.0
    c.in_ok-add_beside.ensures some
