use Rattle.std.proofs.Common.{arith}
use Rattle.number_trees.proofs.Forests.{none_raised, more_raised, all_raised}
use Rattle.number_trees.proofs.tree.raise_all.Goals as goal

pub loop-at-init : goal.loop-at-init
loop-at-init c = none_raised c.args.parents.now.items c.requires

pub loop-at-preserved : goal.loop-at-preserved
loop-at-preserved c = more_raised c.loop-at.at c.args.parents.now.items c.loop-at.parents.items c.raise.new.parents.items c.requires (omega arith) c.loop-at.invariant c.raise.ensures

pub returns : goal.returns
returns c = all_raised c.loop-at.at c.args.parents.now.items c.loop-at.parents.items (omega arith) c.loop-at.invariant
