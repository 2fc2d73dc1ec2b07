use Rattle.std.proofs.Common.{◌-ℤ◌, unsigned_abs}
use Rattle.bare_cells.proofs.rows.+bare_rows.Given as goal

abbrev pub decreases-bare_rows : goal.decreases-bare_rows
decreases-bare_rows l = unsigned_abs (l.columns.now.x2 -ℤ l.columns.now.x1)
