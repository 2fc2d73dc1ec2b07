use Rattle.scmos_rules.specs.Regions.{way_of}
use Rattle.scmos_rules.proofs.Unions.{minus_inner}
use Rattle.scmos_rules.proofs.Directions.{ends_early}
use Rattle.scmos_rules.proofs.gates.ending_early.Goals as goal

pub lacking-requires-clause-inner : goal.lacking-requires-clause-inner
lacking-requires-clause-inner c = minus_inner c.in_ok-gates.gates c.in_ok-beyond.beyond c.in_ok-base.base c.in_ok-gates.ensures.inner c.in_ok-base.ensures

pub returns : goal.returns
returns c = ends_early c.args.shapes.now.rects 4 (way_of c.args.heading) c.in_ok-gates.gates c.in_ok-active.active c.in_ok-poly.poly c.in_ok-beyond.beyond c.in_ok-base.base c.in_ok-region.region c.in_ok-gates.ensures.cells c.in_ok-gates.ensures.inner c.in_ok-active.ensures.cells c.in_ok-poly.ensures.cells c.in_ok-beyond.ensures c.in_ok-base.ensures c.in_ok-region.ensures
