use Rattle.std.proofs.Common.{◌≡◌, drop, true}
use Rattle.trail_state.specs.Fronts.{front_at}
use Rattle.trail_state.specs.Known.{AreKnown, parts_of}
use Rattle.trail_state.proofs.listing.last_front.Given as goal

abbrev pub invariant-loop-at : goal.invariant-loop-at
invariant-loop-at l = (parts_of l.front.keys ≡ front_at l.gate l.at) × (l.again ≡ true → AreKnown l.gate (drop l.at l.gate.p) l.front.keys)
