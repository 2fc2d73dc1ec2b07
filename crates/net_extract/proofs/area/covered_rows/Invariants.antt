use Rattle.std.proofs.Common.{◌-ℤ◌, unsigned_abs}
use Rattle.net_extract.specs.Areas.{cells_in}
use Rattle.net_extract.proofs.Filling.{IsCovered}
use Rattle.net_extract.proofs.area.covered_rows.Given as goal

abbrev pub invariant-places : goal.invariant-places
invariant-places l = IsCovered l.shapes l.layer (cells_in l.area) l.y l.at l.top

abbrev pub decreases-places : goal.decreases-places
decreases-places l = unsigned_abs (l.area.x2 -ℤ l.at)
