use Rattle.std.proofs.Common.{◌-ℤ◌, unsigned_abs}
use Rattle.net_extract.specs.Areas.{cells_in}
use Rattle.net_extract.proofs.Filling.{IsBuilt}
use Rattle.net_extract.proofs.area.is_area_full.Given as goal

abbrev pub invariant-rows : goal.invariant-rows
invariant-rows l = IsBuilt l.shapes l.layer (cells_in l.area) l.y

abbrev pub decreases-rows : goal.decreases-rows
decreases-rows l = unsigned_abs (l.area.y2 -ℤ l.y)
