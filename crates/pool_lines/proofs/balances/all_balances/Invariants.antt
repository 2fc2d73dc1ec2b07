use Rattle.std.proofs.Common.{◌≡◌, map, take}
use Rattle.pool_lines.specs.Listed.{balance_listed}
use Rattle.pool_lines.proofs.balances.all_balances.Given as goal

abbrev pub invariant-loop-net : goal.invariant-loop-net
invariant-loop-net l = l.all.items ≡ map (balance_listed l.balances) (take l.net-index l.net-items)
