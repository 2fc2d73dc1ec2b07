use Rattle.std.proofs.Common.{◌≡◌, ◌==◌, ◌++◌, map, filter, drop}
use Rattle.row_place.specs.Trunks.{lines_of}
use Rattle.channel_route.proofs.wire.lines.Given as goal

abbrev pub invariant-loop-node : goal.invariant-loop-node
invariant-loop-node l = l.lines.items ++ map (λ node. node.line) (filter (λ node. node.net.0 == l.net.0) (drop l.node-index l.placement.nodes)) ≡ map (λ node. node.line) (filter (λ node. node.net.0 == l.net.0) l.placement.nodes)

abbrev pub invariant-loop-gate : goal.invariant-loop-gate
invariant-loop-gate l = l.lines.items ++ map (λ gate. gate.line) (filter (λ gate. gate.net.0 == l.net.0) (drop l.gate-index l.placement.gates)) ≡ lines_of l.placement l.net
