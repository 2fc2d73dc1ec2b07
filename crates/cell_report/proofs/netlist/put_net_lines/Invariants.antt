use Rattle.std.proofs.Common.{◌≡◌, ◌++◌, drop}
use Rattle.std.specs.List.{enumerate_from, flat_map}
use Rattle.cell_report.specs.Netlists.{net_line, net_lines}
use Rattle.cell_report.proofs.netlist.put_net_lines.Given as goal

abbrev pub invariant-nets : goal.invariant-nets
invariant-nets l = l.out ++ flat_map net_line (enumerate_from l.at (drop l.at l.name-items)) ≡ l.fn.out ++ net_lines l.nets
