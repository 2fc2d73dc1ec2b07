use Rattle.scmos_rules.specs.Regions.{way_of}
use Rattle.scmos_rules.proofs.Directions.{bare_ahead}
use Rattle.scmos_rules.proofs.gates.bare_ahead.Goals as goal

pub returns : goal.returns
returns c = bare_ahead c.args.shapes.now.rects (way_of c.args.heading) c.args.set.now c.in_ok-poly.poly c.in_ok-active.active c.in_ok-poly_next.poly_next c.in_ok-active_next.active_next c.in_ok-no_poly.no_poly c.in_ok-region.region c.requires.inner c.in_ok-poly.ensures.cells c.in_ok-active.ensures.cells c.in_ok-poly_next.ensures c.in_ok-active_next.ensures c.in_ok-no_poly.ensures c.in_ok-region.ensures
