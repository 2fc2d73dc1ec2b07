use Rattle.box_geom.specs.declared.layer.Layer.TheVariants.{NSelect}
use Rattle.scmos_rules.specs.Layout.{On, InWell}
use Rattle.scmos_rules.proofs.Unions.{both_cells, both_inner}
use Rattle.scmos_rules.proofs.sets.well_tap.Goals as goal

pub returns-clause-cells : goal.returns-clause-cells
returns-clause-cells c = both_cells (InWell c.args.shapes.now.rects) (On NSelect c.args.shapes.now.rects) c.in_ok-active.active c.in_ok-select.select c.in_ok-region.region c.in_ok-active.ensures.cells c.in_ok-select.ensures.cells c.in_ok-region.ensures

pub returns-clause-inner : goal.returns-clause-inner
returns-clause-inner c = both_inner c.in_ok-active.active c.in_ok-select.select c.in_ok-region.region c.in_ok-active.ensures.inner c.in_ok-region.ensures
