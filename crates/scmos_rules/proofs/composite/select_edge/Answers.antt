use Rattle.box_geom.specs.declared.layer.Layer.TheVariants.{PSelect, NSelect}
use Rattle.scmos_rules.specs.Layout.{On, PSelected, NSelected}
use Rattle.scmos_rules.specs.Failing.{FailsSurround}
use Rattle.scmos_rules.proofs.Unions.{either_cells}
use Rattle.scmos_rules.proofs.composite.select_edge.Goals as goal

pub returns : goal.returns
returns c = either_cells (FailsSurround (PSelected c.args.deck c.args.shapes.now.rects) (On PSelect c.args.shapes.now.rects) 4) (FailsSurround (NSelected c.args.deck c.args.shapes.now.rects) (On NSelect c.args.shapes.now.rects) 4) c.in_ok-p.p c.in_ok-n.n c.in_ok-region.region c.in_ok-p.ensures c.in_ok-n.ensures c.in_ok-region.ensures
