use Rattle.std.proofs.Common.{◌≡◌, ◌≤◌, take}
use Rattle.cell_draw.specs.Frame.{height_of}
use Rattle.cell_draw.proofs.frame.height_of.Given as goal

abbrev pub invariant-loop-column : goal.invariant-loop-column
invariant-loop-column l = (l.most ≡ height_of l.row (take l.column-index l.columns)) × (10 ≤ l.most) × (l.most ≤ 400)
