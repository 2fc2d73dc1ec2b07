use Rattle.std.proofs.Common.{◌≡◌, take}
use Rattle.spice_net.specs.Nets.{devices_of}
use Rattle.spice_net.specs.Reader.{names_of}
use Rattle.spice_net.proofs.nets.devices.Given as goal

abbrev pub invariant-loop-transistor : goal.invariant-loop-transistor
invariant-loop-transistor l = l.found ≡ devices_of (names_of l.nets.keys) (take l.transistor-index l.transistors)
