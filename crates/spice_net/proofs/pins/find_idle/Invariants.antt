use Rattle.std.proofs.Common.{◌≡◌, drop}
use Rattle.std.specs.Prelude.{find}
use Rattle.spice_net.specs.Reader.{names_of}
use Rattle.spice_net.specs.Subcircuit.{is_idle}
use Rattle.spice_net.proofs.pins.find_idle.Given as goal

abbrev pub invariant-loop-pin : goal.invariant-loop-pin
invariant-loop-pin l = find (is_idle l.tech (names_of l.named.keys)) (names_of (drop l.pin-index l.pins)) ≡ find (is_idle l.tech (names_of l.named.keys)) (names_of l.pins)
