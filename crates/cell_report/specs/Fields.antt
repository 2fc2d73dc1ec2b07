-- The program's fields of faults, by their texts.
use Rattle.cell_report.specs.declared.fault_line.Field.{Field}
use Rattle.cell_report.specs.declared.fault_line.Field.TheVariants as field
use Rattle.cell_report.specs.Faults as faults

abbrev pub spelled : Field → faults.Field
spelled (field.Number name value) = faults.Number name.now value
spelled (field.Signed name value) = faults.Signed name.now value
spelled (field.Text name text) = faults.Text name.now text.now
