use Rattle.std.proofs.Common.{◌++◌, IsPermutation, length}
use Rattle.trail_search.specs.Order.{gates_of}
use Rattle.trail_search.proofs.gate_order.order.Given as goal

abbrev pub invariant-gates : goal.invariant-gates
invariant-gates l = IsPermutation (gates_of l.fingers) (l.order ++ l.left.items)

abbrev pub decreases-gates : goal.decreases-gates
decreases-gates l = length l.left.items
