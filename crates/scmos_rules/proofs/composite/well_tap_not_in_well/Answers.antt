use Rattle.box_geom.specs.declared.layer.Layer.TheVariants.{Well}
use Rattle.scmos_rules.specs.Layout.{On, WellTap}
use Rattle.scmos_rules.proofs.Distances.{like_surround}
use Rattle.scmos_rules.proofs.composite.well_tap_not_in_well.Goals as goal

pub returns : goal.returns
returns c = like_surround (WellTap c.args.shapes.now.rects) (On Well c.args.shapes.now.rects) c.in_ok-taps.taps c.in_ok-well.well c.in_ok-region.region 6 c.in_ok-taps.ensures.cells c.in_ok-well.ensures.cells c.in_ok-region.ensures
