use Rattle.box_geom.specs.declared.layer.Layer.TheVariants.{Active}
use Rattle.scmos_rules.specs.Layout.{On, DiffusionContact}
use Rattle.scmos_rules.proofs.Distances.{like_surround}
use Rattle.scmos_rules.proofs.composite.diffusion_edge.Goals as goal

pub returns : goal.returns
returns c = like_surround (DiffusionContact c.args.shapes.now.rects) (On Active c.args.shapes.now.rects) c.in_ok-contact.contact c.in_ok-active.active c.in_ok-region.region 3 c.in_ok-contact.ensures.cells c.in_ok-active.ensures.cells c.in_ok-region.ensures
