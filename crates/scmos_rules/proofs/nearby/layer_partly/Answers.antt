use Rattle.scmos_rules.specs.Layout.{On}
use Rattle.scmos_rules.specs.Failing.{FailsSurround, FailsAway}
use Rattle.scmos_rules.proofs.Unions.{both_cells}
use Rattle.scmos_rules.proofs.nearby.layer_partly.Goals as goal

pub returns : goal.returns
returns c = both_cells (FailsAway (On c.args.inside c.args.shapes.now.rects) (On c.args.outside c.args.shapes.now.rects) c.args.by) (FailsSurround (On c.args.inside c.args.shapes.now.rects) (On c.args.outside c.args.shapes.now.rects) c.args.by) c.in_ok-near.near c.in_ok-out.out c.in_ok-region.region c.in_ok-near.ensures c.in_ok-out.ensures c.in_ok-region.ensures
