use Rattle.number_trees.proofs.Forests.{AreRaised}
use Rattle.number_trees.proofs.tree.raise_all.Given as goal

abbrev pub invariant-loop-at : goal.invariant-loop-at
invariant-loop-at l = AreRaised l.at l.fn.parents.items l.parents.items
