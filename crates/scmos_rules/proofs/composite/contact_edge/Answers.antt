use Rattle.box_geom.specs.declared.layer.Layer.TheVariants.{Poly}
use Rattle.scmos_rules.specs.Layout.{On, PolyContact, BareContact}
use Rattle.scmos_rules.specs.Failing.{FailsSurround}
use Rattle.scmos_rules.proofs.Unions.{either_cells}
use Rattle.scmos_rules.proofs.composite.contact_edge.Goals as goal

pub returns : goal.returns
returns c = either_cells (BareContact c.args.shapes.now.rects) (FailsSurround (PolyContact c.args.shapes.now.rects) (On Poly c.args.shapes.now.rects) 3) c.in_ok-bare.bare c.in_ok-edge.edge c.in_ok-region.region c.in_ok-bare.ensures c.in_ok-edge.ensures c.in_ok-region.ensures
