use Rattle.std.proofs.Common.{◌≡◌, drop}
use Rattle.row_place.specs.Steps.{first_net}
use Rattle.row_place.proofs.places.net_at.Given as goal

-- no end so far is at the line
abbrev pub invariant-loop-seat : goal.invariant-loop-seat
invariant-loop-seat l = first_net l.row l.line (drop l.seat-index l.seats) ≡ first_net l.row l.line l.seats
