use Rattle.box_geom.specs.declared.layer.Layer.TheVariants.{PSelect}
use Rattle.scmos_rules.specs.Layout.{On, PSelected}
use Rattle.scmos_rules.proofs.Distances.{like_surround}
use Rattle.scmos_rules.proofs.composite.not_in_p_select.Goals as goal

pub returns : goal.returns
returns c = like_surround (PSelected c.args.deck c.args.shapes.now.rects) (On PSelect c.args.shapes.now.rects) c.in_ok-active.active c.in_ok-select.select c.in_ok-region.region 4 c.in_ok-active.ensures.cells c.in_ok-select.ensures.cells c.in_ok-region.ensures
