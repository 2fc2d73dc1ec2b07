use Rattle.std.proofs.Common.{◌≡◌, take}
use Rattle.std.specs.List.{flat_map}
use Rattle.lef_read.specs.declared.cell.LefPin.{LefPin}
use Rattle.layout_commands.proofs.agreement.ports.Given as goal

abbrev pub invariant-loop-pin : goal.invariant-loop-pin
invariant-loop-pin l = l.ports ≡ flat_map (λ (pin : LefPin). pin.ports) (take l.pin-index l.pins)
