use Rattle.std.proofs.Common.{◌≡◌, take}
use Rattle.trail_search.specs.Filling.{crowded_gates}
use Rattle.trail_search.proofs.gates.crowded.Given as goal

abbrev pub invariant-loop-gate : goal.invariant-loop-gate
invariant-loop-gate l = l.gates ≡ crowded_gates l.fingers (take l.gate-index l.order)
