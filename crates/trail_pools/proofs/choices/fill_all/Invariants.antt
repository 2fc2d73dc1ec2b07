use Rattle.std.proofs.Common.{◌≡◌, map, take}
use Rattle.trail_pools.specs.Choices.{filled_choice}
use Rattle.trail_pools.proofs.choices.fill_all.Given as goal

abbrev pub invariant-loop-edges : goal.invariant-loop-edges
invariant-loop-edges l = l.all ≡ map filled_choice (take l.edges-index l.lists)
