use Rattle.net_extract.proofs.LinkTrees.{Tried}
use Rattle.net_extract.proofs.linked.link_behind.Given as goal

abbrev pub invariant-loop-later : goal.invariant-loop-later
invariant-loop-later l = Tried l.link l.pieces l.at l.later l.fn.parents.items l.parents.items
