use Rattle.std.proofs.Common.{arith, sym, ◌∙◌}
use Rattle.net_extract.proofs.LinkTrees.{none_unreached, more_unreached, under_tree, unreached_tree}
use Rattle.net_extract.proofs.linked.are_in_one_tree.Goals as goal

pub loop-at-init : goal.loop-at-init
loop-at-init c = none_unreached c.args.link.now c.args.pieces.now

pub loop-at-preserved : goal.loop-at-preserved
loop-at-preserved c = more_unreached c.args.link.now c.args.pieces.now c.loop-at.at (sym c.does_reach.ensures ∙ c.if-does_reach.false) c.loop-at.invariant

pub returns-then-does_reach : goal.returns-then-does_reach
returns-then-does_reach c = λ t. under_tree c.args.parents.now c.args.link.now c.args.pieces.now c.loop-at.at c.root.result c.loop-at.invariant (c.are_under.ensures t)

pub returns : goal.returns
returns c = λ t. unreached_tree c.args.parents.now c.args.link.now c.args.pieces.now c.loop-at.at (omega arith) c.loop-at.invariant
