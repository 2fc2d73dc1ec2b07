use Rattle.std.proofs.Common.{◌≡◌, ◌++◌, drop}
use Rattle.std.specs.List.{enumerate_from, flat_map}
use Rattle.cell_report.specs.Netlists.{device_line, device_lines}
use Rattle.cell_report.proofs.netlist.put_device_lines.Given as goal

abbrev pub invariant-devices : goal.invariant-devices
invariant-devices l = l.out ++ flat_map (device_line l.netlist.names l.bodies) (enumerate_from l.at (drop l.at l.device-items)) ≡ l.fn.out ++ device_lines l.netlist l.bodies
