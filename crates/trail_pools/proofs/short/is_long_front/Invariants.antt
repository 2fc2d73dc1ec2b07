use Rattle.std.proofs.Common.{◌≡◌, drop}
use Rattle.trail_pools.specs.Choices.{first_front, is_long_front}
use Rattle.trail_pools.proofs.short.is_long_front.Given as goal

abbrev pub invariant-loop-y : goal.invariant-loop-y
invariant-loop-y l =
    is_long_front l.most l.row l.front.keys (drop l.y-index l.ys)
    ≡ is_long_front l.most l.row (first_front l.xs) l.ys
