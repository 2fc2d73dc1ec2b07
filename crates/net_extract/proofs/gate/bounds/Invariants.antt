use Rattle.std.proofs.Common.{◌≡◌, fold, take}
use Rattle.net_extract.specs.GateNets.{wider}
use Rattle.net_extract.proofs.gate.bounds.Given as goal

abbrev pub invariant-loop-wire : goal.invariant-loop-wire
invariant-loop-wire l = l.all ≡ fold (wider l.net) l.fn.first (take l.wire-index l.wires)
