use Rattle.std.proofs.Common.{◌≡◌, ◌++◌, take}
use Rattle.std.specs.List.{filter}
use Rattle.box_geom.specs.Standing.{stands_at}
use Rattle.box_geom.proofs.standing.add_begun.Given as goal

abbrev pub invariant-loop-block : goal.invariant-loop-block
invariant-loop-block l = l.standing.items ≡ l.fn.standing.items ++ filter (stands_at l.y) (take l.block-index l.begun)
