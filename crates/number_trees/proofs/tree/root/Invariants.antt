use Rattle.std.proofs.Common.{◌≤◌}
use Rattle.number_trees.specs.Classes.{InTree}
use Rattle.number_trees.proofs.tree.root.Given as goal

abbrev pub invariant-up : goal.invariant-up
invariant-up l = (l.at ≤ l.of) × InTree l.parents l.of l.at

abbrev pub decreases-up : goal.decreases-up
decreases-up l = l.at
