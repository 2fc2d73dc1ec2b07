use Rattle.std.proofs.Common.{◌≡◌, ◌≤◌, length}
use Rattle.first_route.proofs.Steps.{FailBelow}
use Rattle.first_route.proofs.Tries.{AreTried}
use Rattle.first_route.proofs.way.+descend.Given as goal

abbrev pub decreases-descend : goal.decreases-descend
decreases-descend l = length l.left.now

abbrev pub invariant-loop-track : goal.invariant-loop-track
invariant-loop-track l =
    (l.placed.items ≡ l.fn.placed.items)
    × FailBelow l.channel.constraints.now l.channel.tracks l.placed.items l.first l.rest l.track
    × (l.budget ≤ l.fn.budget)
    × AreTried l.channel.constraints.now l.channel.tracks l.placed.items l.first l.rest l.track l.fn.budget l.budget
