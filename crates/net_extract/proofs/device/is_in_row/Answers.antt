use Rattle.std.proofs.Common.{◌↔◌, IsTrue, sym, subst}
use Rattle.net_extract.specs.Areas.{cells_in}
use Rattle.net_extract.specs.Sides.{IsInRow}
use Rattle.net_extract.proofs.Siding.{full_row, free_row}
use Rattle.net_extract.proofs.device.is_in_row.Goals as goal

pub returns-in-P : goal.returns-in-P
returns-in-P c = subst (λ w. IsTrue c.is_full.result ↔ IsInRow c.args.shapes.now w (cells_in c.args.area.now)) (sym c.in-P.is) (full_row c.args.shapes.now (cells_in c.args.area.now) c.is_full.result c.is_full.ensures)

pub returns-in-N : goal.returns-in-N
returns-in-N c = subst (λ w. IsTrue c.is_free.result ↔ IsInRow c.args.shapes.now w (cells_in c.args.area.now)) (sym c.in-N.is) (free_row c.args.shapes.now (cells_in c.args.area.now) c.is_free.result c.is_free.ensures)
