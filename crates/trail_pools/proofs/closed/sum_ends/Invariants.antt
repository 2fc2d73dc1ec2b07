use Rattle.std.proofs.Common.{◌≡◌, ◌≤◌, ◌*◌, ◌^◌, sum_by, take}
use Rattle.trail_pools.specs.declared.closed.ClosedPlace.{ClosedPlace}
use Rattle.trail_pools.proofs.closed.sum_ends.Given as goal

abbrev pub invariant-loop-other : goal.invariant-loop-other
invariant-loop-other l =
    (l.total ≡ sum_by (λ (c : ClosedPlace). c.ends) (take l.other-index l.closed))
    × (l.total ≤ l.other-index * 2 ^ 32)
