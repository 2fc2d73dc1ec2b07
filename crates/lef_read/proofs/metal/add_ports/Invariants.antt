use Rattle.std.proofs.Common.{◌≡◌, ◌++◌, take}
use Rattle.std.specs.List.{flat_map}
use Rattle.lef_read.specs.declared.cell.LefPin.{LefPin}
use Rattle.lef_read.specs.Agreement.{on_layer}
use Rattle.lef_read.proofs.metal.add_ports.Given as goal

abbrev pub invariant-loop-pin : goal.invariant-loop-pin
invariant-loop-pin l = l.blocks.items ≡ l.fn.blocks.items ++ flat_map (λ (p : LefPin). on_layer l.layer p.ports) (take l.pin-index l.pins)
