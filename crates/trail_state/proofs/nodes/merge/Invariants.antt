use Rattle.std.proofs.Common.{◌≡◌, ◌+◌, ◌++◌, true, length}
use Rattle.std.specs.Set.{sorted_merge}
use Rattle.trail_state.specs.Nodes.{node_cmp}
use Rattle.trail_state.proofs.nodes.merge.Given as goal

abbrev pub invariant-loop-x : goal.invariant-loop-x
invariant-loop-x l = l.all.items ++ sorted_merge node_cmp true l.xs l.ys ≡ sorted_merge node_cmp true l.a l.b

abbrev pub decreases-loop-x : goal.decreases-loop-x
decreases-loop-x l = length l.xs + length l.ys
