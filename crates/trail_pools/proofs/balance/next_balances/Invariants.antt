use Rattle.std.proofs.Common.{◌≡◌, map, take}
use Rattle.trail_pools.specs.Stepping.{next_balance}
use Rattle.trail_pools.proofs.balance.next_balances.Given as goal

abbrev pub invariant-loop-net : goal.invariant-loop-net
invariant-loop-net l =
    l.all.items ≡ map (next_balance l.row l.shut l.balances l.halves) (take l.net-index l.net-items)
