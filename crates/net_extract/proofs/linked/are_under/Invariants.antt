use Rattle.net_extract.specs.Links.{AreUnder}
use Rattle.net_extract.proofs.linked.are_under.Given as goal

abbrev pub invariant-loop-at : goal.invariant-loop-at
invariant-loop-at l = AreUnder l.parents l.link l.pieces l.from l.at l.first
