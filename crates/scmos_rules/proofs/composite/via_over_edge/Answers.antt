use Rattle.box_geom.specs.declared.layer.Layer.TheVariants.{Active, Poly, Via}
use Rattle.scmos_rules.specs.Layout.{On}
use Rattle.scmos_rules.specs.Failing.{FailsPartly}
use Rattle.scmos_rules.proofs.Unions.{either_cells}
use Rattle.scmos_rules.proofs.composite.via_over_edge.Goals as goal

pub returns : goal.returns
returns c = either_cells (FailsPartly (On Via c.args.shapes.now.rects) (On Poly c.args.shapes.now.rects) 4) (FailsPartly (On Via c.args.shapes.now.rects) (On Active c.args.shapes.now.rects) 4) c.in_ok-poly.poly c.in_ok-active.active c.in_ok-region.region c.in_ok-poly.ensures c.in_ok-active.ensures c.in_ok-region.ensures
