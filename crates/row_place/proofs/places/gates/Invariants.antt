use Rattle.std.proofs.Common.{◌≡◌, ◌++◌, drop}
use Rattle.row_place.specs.Steps.{gates_of}
use Rattle.row_place.proofs.places.gates.Given as goal

abbrev pub invariant-loop-seat : goal.invariant-loop-seat
invariant-loop-seat l = l.gates ++ gates_of (drop l.seat-index l.seats) ≡ gates_of l.seats
