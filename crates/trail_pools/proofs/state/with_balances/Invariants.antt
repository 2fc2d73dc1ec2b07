use Rattle.std.proofs.Common.{◌≡◌, fold, take}
use Rattle.trail_pools.specs.Numbered.{with_balance}
use Rattle.trail_pools.proofs.state.with_balances.Given as goal

abbrev pub invariant-loop-balance : goal.invariant-loop-balance
invariant-loop-balance l = l.mix ≡ fold with_balance l.number (take l.balance-index l.balances)
