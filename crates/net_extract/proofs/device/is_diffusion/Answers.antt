use Rattle.net_extract.specs.Areas.{cells_in}
use Rattle.net_extract.proofs.Siding.{is_diffused}
use Rattle.net_extract.proofs.device.is_diffusion.Goals as goal

pub returns-then-is_free : goal.returns-then-is_free
returns-then-is_free c = is_diffused c.args.shapes.now c.args.row (cells_in c.args.area.now) c.is_full.result c.is_free.result c.is_in_row.result c.is_full.ensures c.if-is_full.true c.is_free.ensures c.if-is_free.true c.is_in_row.ensures
