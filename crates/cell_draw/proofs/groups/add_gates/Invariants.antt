use Rattle.std.proofs.Common.{◌≡◌, ◌++◌, drop, flat_map}
use Rattle.cell_draw.specs.Shapes.{gate_shapes}
use Rattle.cell_draw.proofs.groups.add_gates.Given as goal

abbrev pub invariant-loop-gate : goal.invariant-loop-gate
invariant-loop-gate l = l.out ++ flat_map (gate_shapes l.frame) (drop l.gate-index l.gates) ≡ l.fn.out ++ flat_map (gate_shapes l.frame) l.gates
