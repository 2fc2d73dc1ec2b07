use Rattle.std.proofs.Common.{◌≡◌, take}
use Rattle.trail_pools.proofs.choices.copy_all.Given as goal

abbrev pub invariant-loop-choice : goal.invariant-loop-choice
invariant-loop-choice l = l.all ≡ take l.choice-index l.front
