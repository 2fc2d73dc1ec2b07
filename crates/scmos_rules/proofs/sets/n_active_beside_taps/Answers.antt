use Rattle.box_geom.specs.declared.layer.Layer.TheVariants.{PSelect}
use Rattle.scmos_rules.specs.Layout.{On, OutOfWell}
use Rattle.scmos_rules.proofs.Unions.{minus_cells, minus_inner}
use Rattle.scmos_rules.proofs.sets.n_active_beside_taps.Goals as goal

pub returns-clause-cells : goal.returns-clause-cells
returns-clause-cells c = minus_cells (OutOfWell c.args.shapes.now.rects) (On PSelect c.args.shapes.now.rects) c.in_ok-active.active c.in_ok-select.select c.in_ok-region.region c.in_ok-active.ensures.cells c.in_ok-select.ensures.cells c.in_ok-region.ensures

pub returns-clause-inner : goal.returns-clause-inner
returns-clause-inner c = minus_inner c.in_ok-active.active c.in_ok-select.select c.in_ok-region.region c.in_ok-active.ensures.inner c.in_ok-region.ensures
