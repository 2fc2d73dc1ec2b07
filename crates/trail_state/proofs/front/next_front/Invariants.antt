use Rattle.std.proofs.Common.{◌≡◌, drop, take, true}
use Rattle.trail_state.specs.Fronts.{next_front}
use Rattle.trail_state.specs.Known.{AreKnown, is_again, parts_of}
use Rattle.trail_state.proofs.front.next_front.Given as goal

abbrev pub invariant-loop-reached : goal.invariant-loop-reached
invariant-loop-reached l =
    (parts_of l.all.keys ≡ next_front l.gate l.xs (parts_of (take l.reached-index l.front)))
    × (is_again l.xs ≡ true → AreKnown l.gate (drop 1 l.xs) l.all.keys)
