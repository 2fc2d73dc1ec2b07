use Rattle.std.proofs.Common.{◌≡◌, ◌++◌, drop, flat_map}
use Rattle.cell_draw.specs.Shapes.{via_shapes}
use Rattle.cell_draw.proofs.groups.add_vias.Given as goal

abbrev pub invariant-loop-x : goal.invariant-loop-x
invariant-loop-x l = l.out ++ flat_map (via_shapes l.y) (drop l.x-index l.vias) ≡ l.fn.out ++ flat_map (via_shapes l.y) l.vias
