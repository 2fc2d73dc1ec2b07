use Rattle.box_geom.specs.declared.layer.Layer.TheVariants.{Well}
use Rattle.scmos_rules.specs.Layout.{On, NActive}
use Rattle.scmos_rules.proofs.Distances.{like_away}
use Rattle.scmos_rules.proofs.composite.n_active_near_well.Goals as goal

pub returns : goal.returns
returns c = like_away (NActive c.args.deck c.args.shapes.now.rects) (On Well c.args.shapes.now.rects) c.in_ok-active.active c.in_ok-well.well c.in_ok-region.region 12 c.in_ok-active.ensures.cells c.in_ok-well.ensures.cells c.in_ok-region.ensures
