use Rattle.box_geom.specs.declared.layer.Layer.TheVariants.{Well}
use Rattle.scmos_rules.specs.Layout.{On, PActive, NActive}
use Rattle.scmos_rules.specs.Failing.{FailsSurround, FailsAway}
use Rattle.scmos_rules.proofs.Unions.{either_cells}
use Rattle.scmos_rules.proofs.composite.well_edge.Goals as goal

pub returns : goal.returns
returns c = either_cells (FailsSurround (PActive c.args.deck c.args.shapes.now.rects) (On Well c.args.shapes.now.rects) 12) (FailsAway (NActive c.args.deck c.args.shapes.now.rects) (On Well c.args.shapes.now.rects) 12) c.in_ok-inside.inside c.in_ok-outside.outside c.in_ok-region.region c.in_ok-inside.ensures c.in_ok-outside.ensures c.in_ok-region.ensures
