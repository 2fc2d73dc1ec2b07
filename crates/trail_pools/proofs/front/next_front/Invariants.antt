use Rattle.std.proofs.Common.{◌≡◌, take}
use Rattle.trail_pools.specs.Choices.{next_front}
use Rattle.trail_pools.proofs.front.next_front.Given as goal

abbrev pub invariant-loop-choice : goal.invariant-loop-choice
invariant-loop-choice l = l.all.keys ≡ next_front l.row (take l.choice-index l.front) l.y
