use Rattle.std.proofs.Common.{◌≡◌, take}
use Rattle.spice_net.specs.Directions.{directions_of}
use Rattle.spice_net.specs.Reader.{names_of}
use Rattle.spice_net.proofs.directions.directions_of.Given as goal

abbrev pub invariant-loop-pin : goal.invariant-loop-pin
invariant-loop-pin l = l.found ≡ directions_of l.tech l.lines (names_of (take l.pin-index l.pins)) l.transistors
