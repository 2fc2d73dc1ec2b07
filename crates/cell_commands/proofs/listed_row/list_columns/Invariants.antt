use Rattle.std.proofs.Common.{take}
use Rattle.cell_commands.proofs.Columns.{AreListed}
use Rattle.cell_commands.proofs.listed_row.list_columns.Given as goal

abbrev pub invariant-columns : goal.invariant-columns
invariant-columns l = AreListed l.kinds (take l.column-index l.columns) l.steps
