use Rattle.net_extract.specs.Areas.{cells_in}
use Rattle.net_extract.proofs.Filling.{free_like}
use Rattle.net_extract.proofs.area.is_free.Goals as goal

pub returns : goal.returns
returns c = free_like c.args.shapes.now c.on.result.now c.args.layer (cells_in c.args.area.now) c.is_area_free.result c.on.ensures.rects c.is_area_free.ensures
