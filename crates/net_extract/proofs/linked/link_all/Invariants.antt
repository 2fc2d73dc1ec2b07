use Rattle.net_extract.proofs.LinkTrees.{Settled}
use Rattle.net_extract.proofs.linked.link_all.Given as goal

abbrev pub invariant-loop-at : goal.invariant-loop-at
invariant-loop-at l = Settled l.link l.pieces l.at l.fn.parents.items l.parents.items
