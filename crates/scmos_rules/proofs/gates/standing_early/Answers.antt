use Rattle.scmos_rules.specs.Regions.{way_of}
use Rattle.scmos_rules.proofs.Unions.{both_inner}
use Rattle.scmos_rules.proofs.Directions.{stands_early}
use Rattle.scmos_rules.proofs.gates.standing_early.Goals as goal

pub lacking-requires-clause-inner : goal.lacking-requires-clause-inner
lacking-requires-clause-inner c = both_inner c.in_ok-gates.gates c.in_ok-beside.beside c.in_ok-base.base c.in_ok-gates.ensures.inner c.in_ok-base.ensures

pub returns : goal.returns
returns c = stands_early c.args.shapes.now.rects 6 (way_of c.args.heading) c.in_ok-gates.gates c.in_ok-active.active c.in_ok-bare.bare c.in_ok-beside.beside c.in_ok-base.base c.in_ok-region.region c.in_ok-gates.ensures.cells c.in_ok-gates.ensures.inner c.in_ok-active.ensures.cells c.in_ok-bare.ensures.cells c.in_ok-beside.ensures c.in_ok-base.ensures c.in_ok-region.ensures
