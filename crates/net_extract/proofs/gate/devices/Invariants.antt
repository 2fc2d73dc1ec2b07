use Rattle.net_extract.specs.Connections.{firsts_of}
use Rattle.net_extract.proofs.Gating.{AreDone}
use Rattle.net_extract.proofs.gate.devices.Given as goal

abbrev pub invariant-loop-net : goal.invariant-loop-net
invariant-loop-net l = AreDone l.map.deck l.shapes l.gates.wires.items l.gates.firsts.items (firsts_of l.map.firsts.items) l.net l.devices
