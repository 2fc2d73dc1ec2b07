use Rattle.std.proofs.Common.{◌≡◌, not, count_by, All, Contains}
use Rattle.channel_route.specs.Turn.{steps, IsDown, passes}
use Rattle.channel_route.specs.Walk.{next_key, IsWalk}
use Rattle.cell_num.proofs.Pairs.{OneEach}
use Rattle.channel_route.proofs.cycle.turn.Given as goal

-- a walk from the start over different wires down to one that is left
abbrev pub invariant-loop-next : goal.invariant-loop-next
invariant-loop-next l =
    IsWalk steps (IsDown l.left l.constraints) l.path.items l.here.key
    × OneEach steps.key l.path.items
    × Contains l.left l.here
    × (next_key steps l.path.items l.here.key ≡ l.fn.start.key)
    × All (λ step. Contains l.left step.wire) l.path.items

-- the wires that it has not passed
abbrev pub decreases-loop-next : goal.decreases-loop-next
decreases-loop-next l = count_by (λ w. not (passes steps l.path.items w.key)) l.left
