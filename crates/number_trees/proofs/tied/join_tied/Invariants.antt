use Rattle.std.proofs.Common.{length}
use Rattle.number_trees.proofs.Tying.{AreUnited}
use Rattle.number_trees.proofs.tied.join_tied.Given as goal

abbrev pub invariant-loop-at : goal.invariant-loop-at
invariant-loop-at l = AreUnited (length l.fn.parents.items) l.fn.parents.items l.ties l.at l.parents.items
