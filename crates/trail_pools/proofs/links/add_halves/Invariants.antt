use Rattle.std.proofs.Common.{◌≡◌, ◌++◌, map, take}
use Rattle.trail_halves.specs.Halves.{half_placed}
use Rattle.trail_pools.proofs.links.add_halves.Given as goal

abbrev pub invariant-loop-half : goal.invariant-loop-half
invariant-loop-half l = l.all.items ≡ l.fn.all.items ++ map (half_placed l.nodes) (take l.half-index l.halves)
