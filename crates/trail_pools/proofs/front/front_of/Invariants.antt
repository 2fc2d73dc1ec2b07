use Rattle.std.proofs.Common.{◌≡◌, take}
use Rattle.trail_pools.specs.Choices.{front_of}
use Rattle.trail_pools.proofs.front.front_of.Given as goal

abbrev pub invariant-loop-y : goal.invariant-loop-y
invariant-loop-y l = l.front.keys ≡ front_of l.row l.xs (take l.y-index l.ys)
