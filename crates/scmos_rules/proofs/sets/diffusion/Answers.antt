use Rattle.box_geom.specs.declared.layer.Layer.TheVariants.{Active, Poly}
use Rattle.scmos_rules.specs.Layout.{On}
use Rattle.scmos_rules.proofs.Unions.{minus_cells, minus_inner}
use Rattle.scmos_rules.proofs.sets.diffusion.Goals as goal

pub returns-clause-cells : goal.returns-clause-cells
returns-clause-cells c = minus_cells (On Active c.args.shapes.now.rects) (On Poly c.args.shapes.now.rects) c.in_ok-active.active c.in_ok-poly.poly c.in_ok-region.region c.in_ok-active.ensures.cells c.in_ok-poly.ensures.cells c.in_ok-region.ensures

pub returns-clause-inner : goal.returns-clause-inner
returns-clause-inner c = minus_inner c.in_ok-active.active c.in_ok-poly.poly c.in_ok-region.region c.in_ok-active.ensures.inner c.in_ok-region.ensures
