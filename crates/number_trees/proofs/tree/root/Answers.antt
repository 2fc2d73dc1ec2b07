use Rattle.std.proofs.Common.{arith}
use Rattle.number_trees.proofs.Forests.{up_tree}
use Rattle.number_trees.proofs.tree.root.Goals as goal

pub up-smaller : goal.up-smaller
up-smaller c =
    let r = c.requires.of in
    let a = c.up.invariant.0 in
    let t = c.up-test.true in
    let low = c.requires.low.low c.up.at (omega (arith, a, r)) in
    omega (arith, a, low, t)

pub up-preserved : goal.up-preserved
up-preserved c =
    let r = c.requires.of in
    let a = c.up.invariant.0 in
    let low = c.requires.low.low c.up.at (omega (arith, a, r)) in
    (omega (arith, a, low), up_tree c.args.parents.now c.args.of c.up.at (omega (arith, a, r)) c.up.invariant.1)
