use Rattle.std.proofs.Common.{take}
use Rattle.std.specs.List.{All}
use Rattle.lef_read.specs.Lookups.{HavePortsLimits}
use Rattle.lef_read.proofs.metal.show_ports_limits.Given as goal

abbrev pub invariant-loop-pin : goal.invariant-loop-pin
invariant-loop-pin l = All HavePortsLimits (take l.pin-index l.pins)
