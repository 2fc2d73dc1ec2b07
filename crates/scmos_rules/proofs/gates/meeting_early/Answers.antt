use Rattle.scmos_rules.specs.Regions.{way_of}
use Rattle.scmos_rules.proofs.Directions.{meets_early}
use Rattle.scmos_rules.proofs.gates.meeting_early.Goals as goal

pub returns : goal.returns
returns c = meets_early c.args.shapes.now.rects (way_of c.args.heading) c.in_ok-field.field c.in_ok-bare.bare c.in_ok-next.next c.in_ok-first.first c.in_ok-free.free c.in_ok-behind.behind c.in_ok-second.second c.in_ok-region.region c.in_ok-field.ensures.cells c.in_ok-field.ensures.inner c.in_ok-bare.ensures.cells c.in_ok-next.ensures c.in_ok-first.ensures c.in_ok-free.ensures c.in_ok-behind.ensures c.in_ok-second.ensures c.in_ok-region.ensures
