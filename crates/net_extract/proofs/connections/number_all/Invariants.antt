use Rattle.net_extract.specs.Connections.{AreNumbered}
use Rattle.net_extract.proofs.connections.number_all.Given as goal

abbrev pub invariant-loop-at : goal.invariant-loop-at
invariant-loop-at l = AreNumbered l.pieces l.labels l.at l.wires.items l.firsts.items
