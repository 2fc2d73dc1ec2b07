use Rattle.track_search.proofs.Legal.{has_routing}
use Rattle.track_search.proofs.lowest.routing_on.Goals as goal

pub unreachable-requires : goal.unreachable-requires
unreachable-requires c = has_routing c.args.placement.now c.args.pins.now c.args.tracks c.args.budget c.first_routing.new.budget c.requires.placed c.requires.tracks (c.in-Err-None.ensures.none c.in-Err-None.field-0-is) (c.in-Err-None.ensures.tried c.in-Err-None.field-0-is)
