use Rattle.scmos_rules.specs.Layout.{On}
use Rattle.scmos_rules.proofs.Classing.{spacing_is}
use Rattle.scmos_rules.proofs.apart.spacing.Goals as goal

pub returns : goal.returns
returns c = spacing_is (On c.args.layer c.args.shapes.now.rects) c.args.value c.in_ok-set.set c.in_ok-gaps.gaps c.in_ok-near.near c.in_ok-region.region c.in_ok-set.ensures.cells c.in_ok-gaps.ensures c.in_ok-near.ensures c.in_ok-region.ensures
