use Rattle.box_geom.specs.declared.layer.Layer.TheVariants.{Well}
use Rattle.scmos_rules.specs.Layout.{On, WellTap, SubstrateTap}
use Rattle.scmos_rules.specs.Failing.{FailsSurround, FailsAway}
use Rattle.scmos_rules.proofs.Unions.{either_cells}
use Rattle.scmos_rules.proofs.composite.tap_edge.Goals as goal

pub returns : goal.returns
returns c = either_cells (FailsSurround (WellTap c.args.shapes.now.rects) (On Well c.args.shapes.now.rects) 6) (FailsAway (SubstrateTap c.args.shapes.now.rects) (On Well c.args.shapes.now.rects) 6) c.in_ok-inside.inside c.in_ok-outside.outside c.in_ok-region.region c.in_ok-inside.ensures c.in_ok-outside.ensures c.in_ok-region.ensures
