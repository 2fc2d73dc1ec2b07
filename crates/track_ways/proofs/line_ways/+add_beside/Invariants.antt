use Rattle.std.proofs.Common.{◌≡◌, ◌++◌, length}
use Rattle.track_ways.proofs.Listing.{beside_below}
use Rattle.track_ways.proofs.line_ways.+add_beside.Given as goal

abbrev pub decreases-add_beside : goal.decreases-add_beside
decreases-add_beside l = length l.nets.now

abbrev pub invariant-loop-track : goal.invariant-loop-track
invariant-loop-track l = l.ways ≡ l.fn.ways ++ beside_below l.limit l.line l.others l.net l.rest l.tracks.items l.track
