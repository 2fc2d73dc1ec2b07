-- Why cells can't be side by side, by names and fields.
use Rattle.std.specs.Prelude.{[], codes}
use Rattle.row_abut.specs.declared.cell.RowFault.{RowFault}
use Rattle.row_abut.specs.declared.cell.RowFault.TheVariants as row
use Rattle.cell_report.specs.Faults.{Fault, fault_of, with_two}

abbrev pub row_fault : RowFault → Fault
row_fault (row.Heights first other) = with_two (codes "Heights") (codes "first") first (codes "other") other
row_fault (row.Channel left right) = with_two (codes "Channel") (codes "left") left (codes "right") right
row_fault row.NoMemory = fault_of (codes "NoMemory") []
