use Rattle.std.proofs.Common.{◌<◌, length}
use Rattle.trail_search.proofs.gate_order.next.Given as goal

abbrev pub invariant-loop-at : goal.invariant-loop-at
invariant-loop-at l = l.best < length l.left
