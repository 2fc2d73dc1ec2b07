use Rattle.std.proofs.Common.{◌≡◌, false, length, ltb, take}
use Rattle.trail_pools.specs.Choices.{next_front}
use Rattle.trail_pools.proofs.short.next_short.Given as goal

abbrev pub invariant-loop-choice : goal.invariant-loop-choice
invariant-loop-choice l =
    (l.all.keys ≡ next_front l.row (take l.choice-index l.front) l.y)
    × (ltb l.most (length l.all.keys) ≡ false)
