use Rattle.std.proofs.Common.{◌≡◌, ◌++◌, drop}
use Rattle.std.specs.List.{enumerate_from, flat_map}
use Rattle.cell_report.specs.Cycles.{above_text, cycle_text}
use Rattle.cell_report.proofs.ring.put_cycle.Given as goal

abbrev pub invariant-entries : goal.invariant-entries
invariant-entries g l = l.out ++ flat_map (above_text (g.E.Entry.told l.nets) g.E.Entry.met l.cycle) (enumerate_from l.at (drop l.at l.cycle)) ≡ l.fn.out ++ cycle_text (g.E.Entry.told l.nets) g.E.Entry.met l.cycle
