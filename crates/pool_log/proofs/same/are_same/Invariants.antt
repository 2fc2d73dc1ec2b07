use Rattle.std.proofs.Common.{◌≡◌, take}
use Rattle.pool_log.proofs.same.are_same.Given as goal

abbrev pub invariant-items : goal.invariant-items
invariant-items g l = take l.at l.items ≡ take l.at l.others
