use Rattle.scmos_rules.specs.Layout.{On}
use Rattle.scmos_rules.proofs.RunLengths.{like_run}
use Rattle.scmos_rules.proofs.lengths.wrong_lengths.Goals as goal

pub returns : goal.returns
returns c = like_run c.args.measure (On c.args.layer c.args.shapes.now.rects) c.args.value c.in_ok-set.set c.in_ok-region.region c.in_ok-set.ensures.cells c.in_ok-region.ensures
