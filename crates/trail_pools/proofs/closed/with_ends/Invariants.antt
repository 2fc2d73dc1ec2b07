use Rattle.std.proofs.Common.{◌≡◌, take}
use Rattle.trail_pools.specs.Stepping.{closed_of, next_balance, place_ends}
use Rattle.trail_pools.proofs.closed.with_ends.Given as goal

abbrev pub invariant-loop-place : goal.invariant-loop-place
invariant-loop-place l =
    l.closed.items
    ≡ closed_of (place_ends l.nodes (next_balance l.row l.shut l.balances l.halves)) (take l.place-index l.closing)
