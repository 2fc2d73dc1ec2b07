use Rattle.std.proofs.Common.{◌≡◌, ◌++◌, replicate}
use Rattle.finger_fold.proofs.cut.add_copies.Given as goal

abbrev pub invariant-loop : goal.invariant-loop
invariant-loop l = l.out ≡ l.fn.out ++ replicate l.counter l.finger
