use Rattle.std.proofs.Common.{◌≡◌, drop, false, true}
use Rattle.std.specs.List.{list_any, range_with_len}
use Rattle.trail_state.specs.Fronts.{front_at, is_long_at}
use Rattle.trail_state.specs.Known.{AreKnown, parts_of}
use Rattle.trail_state.proofs.listing.short_front.Given as goal

abbrev pub invariant-loop-at : goal.invariant-loop-at
invariant-loop-at l =
    (parts_of l.front.keys ≡ front_at l.gate l.at)
    × (l.again ≡ true → AreKnown l.gate (drop l.at l.gate.p) l.front.keys)
    × (list_any (is_long_at l.most l.gate) (range_with_len 0 l.at) ≡ false)
