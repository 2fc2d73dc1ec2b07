use Rattle.std.proofs.Common.{◌+◌, ◌≤◌, length}
use Rattle.channel_route.specs.Graph.{IsFilled}
use Rattle.channel_route.proofs.sweep.fill.Given as goal

-- the tracks so far are full
abbrev pub invariant-loop-alloc : goal.invariant-loop-alloc
invariant-loop-alloc l = IsFilled l.fn.wires.items l.constraints l.placed.items l.left.items l.tracks × (l.tracks + length l.left.items ≤ length l.fn.wires.items)

abbrev pub decreases-loop-alloc : goal.decreases-loop-alloc
decreases-loop-alloc l = length l.left.items
