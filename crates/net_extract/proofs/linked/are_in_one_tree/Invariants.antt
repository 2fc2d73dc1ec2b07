use Rattle.net_extract.proofs.LinkTrees.{AreUnreached}
use Rattle.net_extract.proofs.linked.are_in_one_tree.Given as goal

abbrev pub invariant-loop-at : goal.invariant-loop-at
invariant-loop-at l = AreUnreached l.link l.pieces l.at
