use Rattle.std.proofs.Common.{◌≡◌, take}
use Rattle.open_gates.specs.Merged.{in_order}
use Rattle.open_gates.proofs.merge.in_order.Given as goal

abbrev pub invariant-loop-edge : goal.invariant-loop-edge
invariant-loop-edge l = l.sorted ≡ in_order (take l.edge-index l.edges)
