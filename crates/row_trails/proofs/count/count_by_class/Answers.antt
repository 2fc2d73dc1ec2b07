use Rattle.std.proofs.Common.{arith, refl, get_or}
use Rattle.row_trails.specs.Counts.{entry, flag}
use Rattle.row_trails.proofs.Sets.{none_counted, size_in_le}
use Rattle.row_trails.proofs.count.count_by_class.Goals as goal

pub loop-net-init : goal.loop-net-init
loop-net-init c = (refl, λ h. none_counted 256 h)

pub overflow_add-counts : goal.overflow_add-counts
overflow_add-counts c =
    let at = get_or c.args.classes.now c.loop-net.net 0 in
    omega (arith, c.loop-net.invariant.1 at, size_in_le c.loop-net.net (entry c.args.classes.now) (flag c.args.set.now) at, c.requires.few, c.loop-net-test.true)

pub returns-clause-few : goal.returns-clause-few
returns-clause-few c h =
    omega (arith, c.loop-net.invariant.1 h, size_in_le c.loop-net.net (entry c.args.classes.now) (flag c.args.set.now) h, c.requires.few, c.loop-net.auto.net-end)
