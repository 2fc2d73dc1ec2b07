use Rattle.std.proofs.Common.{◌≡◌}
use Rattle.net_extract.specs.GateNets.{boxes_below}
use Rattle.net_extract.specs.Ties.{bodies_in}
use Rattle.net_extract.proofs.body.bodies.Given as goal

abbrev pub invariant-loop-class : goal.invariant-loop-class
invariant-loop-class l = l.bodies ≡ bodies_in l.taps l.wells (boxes_below l.gates.wires.items l.gates.firsts.items l.class)
