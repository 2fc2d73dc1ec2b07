use Rattle.box_geom.specs.declared.layer.Layer.TheVariants.{Active, Poly, Contact}
use Rattle.scmos_rules.specs.Layout.{On}
use Rattle.scmos_rules.proofs.Unions.{bare_cells}
use Rattle.scmos_rules.proofs.sets.bare_contact.Goals as goal

pub returns : goal.returns
returns c = bare_cells (On Contact c.args.shapes.now.rects) (On Poly c.args.shapes.now.rects) (On Active c.args.shapes.now.rects) c.in_ok-contact.contact c.in_ok-poly.poly c.in_ok-active.active c.in_ok-rest.rest c.in_ok-region.region c.in_ok-contact.ensures.cells c.in_ok-poly.ensures.cells c.in_ok-active.ensures.cells c.in_ok-rest.ensures c.in_ok-region.ensures
