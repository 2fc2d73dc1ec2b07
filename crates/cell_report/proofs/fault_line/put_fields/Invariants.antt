use Rattle.std.proofs.Common.{◌≡◌, ◌++◌, drop, map}
use Rattle.std.specs.List.{flat_map}
use Rattle.cell_report.specs.Faults.{field_text}
use Rattle.cell_report.specs.Fields.{spelled}
use Rattle.cell_report.proofs.fault_line.put_fields.Given as goal

abbrev pub invariant-fields : goal.invariant-fields
invariant-fields l = l.out ++ flat_map field_text (map spelled (drop l.field-index l.fields)) ≡ l.fn.out ++ flat_map field_text (map spelled l.fn.fields)
