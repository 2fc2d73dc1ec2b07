use Rattle.box_geom.specs.declared.layer.Layer.TheVariants.{Poly}
use Rattle.scmos_rules.specs.Layout.{On, PolyContact}
use Rattle.scmos_rules.proofs.Distances.{like_surround}
use Rattle.scmos_rules.proofs.composite.poly_contact_not_in.Goals as goal

pub returns : goal.returns
returns c = like_surround (PolyContact c.args.shapes.now.rects) (On Poly c.args.shapes.now.rects) c.in_ok-contact.contact c.in_ok-poly.poly c.in_ok-region.region 3 c.in_ok-contact.ensures.cells c.in_ok-poly.ensures.cells c.in_ok-region.ensures
