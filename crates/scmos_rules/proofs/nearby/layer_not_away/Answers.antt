use Rattle.scmos_rules.specs.Layout.{On}
use Rattle.scmos_rules.proofs.Distances.{like_away}
use Rattle.scmos_rules.proofs.nearby.layer_not_away.Goals as goal

pub returns : goal.returns
returns c = like_away (On c.args.inside c.args.shapes.now.rects) (On c.args.outside c.args.shapes.now.rects) c.in_ok-a.a c.in_ok-b.b c.in_ok-region.region c.args.by c.in_ok-a.ensures.cells c.in_ok-b.ensures.cells c.in_ok-region.ensures
