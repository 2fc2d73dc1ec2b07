use Rattle.std.proofs.Common.{◌≡◌, ◌++◌, drop}
use Rattle.std.specs.List.{enumerate_from, flat_map}
use Rattle.cell_report.specs.Rows.{column_text, columns_text}
use Rattle.cell_report.proofs.row.put_columns.Given as goal

abbrev pub invariant-columns : goal.invariant-columns
invariant-columns l = l.out ++ flat_map (column_text l.nets) (enumerate_from l.at (drop l.at l.column-items)) ≡ l.fn.out ++ columns_text l.nets l.row
