use Rattle.std.proofs.Common.{◌≡◌, ◌++◌, drop}
use Rattle.std.specs.List.{flat_map}
use Rattle.cell_report.specs.Violations.{violation_line, violation_text}
use Rattle.cell_report.proofs.violations.put_violations.Given as goal

abbrev pub invariant-lines : goal.invariant-lines
invariant-lines l = l.out ++ flat_map violation_line (drop l.violation-index l.violation-items) ≡ l.fn.out ++ violation_text l.found
