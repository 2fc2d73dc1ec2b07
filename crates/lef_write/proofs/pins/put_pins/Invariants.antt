use Rattle.std.proofs.Common.{◌≡◌, ◌++◌}
use Rattle.std.specs.List.{flat_map, range_with_len}
use Rattle.lef_write.specs.Lef.{pin_text}
use Rattle.lef_write.proofs.pins.put_pins.Given as goal

abbrev pub invariant-loop-pin : goal.invariant-loop-pin
invariant-loop-pin l = l.out ≡ l.fn.out ++ flat_map (pin_text l.cell l.ports l.rects l.unit_nm) (range_with_len 0 l.pin)
