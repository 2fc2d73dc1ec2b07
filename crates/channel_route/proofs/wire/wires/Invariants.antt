use Rattle.std.proofs.Common.{◌≡◌, ◌+◌, ◌≤◌, true, length, take, All}
use Rattle.row_place.specs.Trunks.{HasTrunk}
use Rattle.channel_route.specs.Graph.{has_key}
use Rattle.channel_route.specs.Wires.{AreFound}
use Rattle.channel_route.proofs.wire.wires.Given as goal

-- the wires of the nets so far
abbrev pub invariant-loop-node : goal.invariant-loop-node
invariant-loop-node l =
    AreFound l.placement l.pins l.wires.items
    × All (λ node. HasTrunk l.placement l.pins node.net → has_key l.wires.items node.net.0 ≡ true) (take l.node-index l.placement.nodes)
    × (length l.wires.items ≤ l.node-index)

abbrev pub invariant-loop-gate : goal.invariant-loop-gate
invariant-loop-gate l =
    AreFound l.placement l.pins l.wires.items
    × All (λ node. HasTrunk l.placement l.pins node.net → has_key l.wires.items node.net.0 ≡ true) l.placement.nodes
    × All (λ gate. HasTrunk l.placement l.pins gate.net → has_key l.wires.items gate.net.0 ≡ true) (take l.gate-index l.placement.gates)
    × (length l.wires.items ≤ length l.placement.nodes + l.gate-index)
