use Rattle.std.proofs.Common.{◌≡◌, true, false, All, take, drop}
use Rattle.channel_route.specs.Turn.{leads, waits_at}
use Rattle.channel_route.proofs.cycle.next_below.Given as goal

-- none so far leads to a wire that is left, one of those behind does
abbrev pub invariant-loop-constraint : goal.invariant-loop-constraint
invariant-loop-constraint l =
    (waits_at l.left l.key (drop l.constraint-index l.constraints) ≡ true)
    × All (λ c. leads l.left l.key c ≡ false) (take l.constraint-index l.constraints)
