use Rattle.trail_search.proofs.Proving.{filled_are, stops_filled}
use Rattle.trail_search.proofs.listing.open_listing.Goals as goal

pub returns-in-Err-clause-stops : goal.returns-in-Err-clause-stops
returns-in-Err-clause-stops c =
    stops_filled 65536 c.args.fingers.now c.args.order.now c.in_ok-fill.fill c.in-Err.why
    (filled_are c.args.fingers.now c.args.order.now c.in_ok-opened.opened c.in_ok-fill.fill c.in_ok-opened.ensures c.in_ok-fill.ensures)
    c.in-Err.ensures.stops
