use Rattle.box_geom.specs.declared.layer.Layer.TheVariants.{Contact}
use Rattle.scmos_rules.specs.Layout.{On, Gate}
use Rattle.scmos_rules.proofs.Distances.{like_away}
use Rattle.scmos_rules.proofs.composite.gate_distance.Goals as goal

pub returns : goal.returns
returns c = like_away (On Contact c.args.shapes.now.rects) (Gate c.args.shapes.now.rects) c.in_ok-contact.contact c.in_ok-gates.gates c.in_ok-region.region 4 c.in_ok-contact.ensures.cells c.in_ok-gates.ensures.cells c.in_ok-region.ensures
