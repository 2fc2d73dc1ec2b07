use Rattle.std.proofs.Common.{◌≡◌, take}
use Rattle.trail_state.specs.Nodes.{open_nodes}
use Rattle.trail_state.proofs.nodes.open_nodes.Given as goal

abbrev pub invariant-loop-gate : goal.invariant-loop-gate
invariant-loop-gate l = l.nodes ≡ open_nodes l.fingers (take l.gate-index l.gates)
