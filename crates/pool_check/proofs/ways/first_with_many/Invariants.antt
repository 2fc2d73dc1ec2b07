use Rattle.std.proofs.Common.{◌≡◌, length}
use Rattle.pool_check.specs.Accepted.{first_with_many}
use Rattle.pool_check.proofs.ways.first_with_many.Given as goal

abbrev pub invariant-loop-gate : goal.invariant-loop-gate
invariant-loop-gate l = first_with_many l.fingers l.opened l.gates ≡ first_with_many l.fingers l.opened l.order

abbrev pub decreases-loop-gate : goal.decreases-loop-gate
decreases-loop-gate l = length l.gates
