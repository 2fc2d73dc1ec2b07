use Rattle.std.proofs.Common.{◌≡◌, take, sum_by}
use Rattle.row_abut.specs.declared.cell.RowCell.{RowCell}
use Rattle.cell_make.proofs.row_outcome.width_of.Given as goal

abbrev pub invariant-loop-cell : goal.invariant-loop-cell
invariant-loop-cell l = l.width ≡ sum_by (λ (c : RowCell). c.drawing.width) (take l.cell-index l.cells)
