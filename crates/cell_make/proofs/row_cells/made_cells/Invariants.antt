use Rattle.std.proofs.Common.{take}
use Rattle.cell_make.specs.RowSteps.{AreCellsOf}
use Rattle.cell_make.proofs.row_cells.made_cells.Given as goal

abbrev pub invariant-names : goal.invariant-names
invariant-names l = AreCellsOf l.row (take l.name-index l.row.names) l.cells
