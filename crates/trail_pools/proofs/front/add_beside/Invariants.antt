use Rattle.std.proofs.Common.{◌≡◌, take}
use Rattle.std.specs.List.{flat_map}
use Rattle.trail_pools.specs.Choices.{beside_one, with_all}
use Rattle.trail_pools.proofs.front.add_beside.Given as goal

abbrev pub invariant-loop-x : goal.invariant-loop-x
invariant-loop-x l =
    l.all.keys ≡ with_all l.fn.all.keys (flat_map (beside_one l.row l.y l.choice) (take l.x-index l.choice.halves))
