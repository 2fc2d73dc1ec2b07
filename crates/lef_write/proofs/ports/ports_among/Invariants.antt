use Rattle.std.proofs.Common.{◌≡◌}
use Rattle.std.specs.List.{flat_map, range_with_len}
use Rattle.lef_write.specs.Ports.{ports_on}
use Rattle.lef_write.proofs.ports.ports_among.Given as goal

abbrev pub invariant-loop-pin : goal.invariant-loop-pin
invariant-loop-pin l = l.ports ≡ flat_map (ports_on l.pins l.trunks l.metal) (range_with_len 0 l.pin)
