use Rattle.std.proofs.Common.{◌≡◌, ◌++◌, take}
use Rattle.trail_pools.specs.NodesMet.{pool_places}
use Rattle.trail_pools.proofs.places.add_pools.Given as goal

abbrev pub invariant-loop-net : goal.invariant-loop-net
invariant-loop-net l = l.places.items ≡ l.fn.places.items ++ pool_places l.nodes (take l.net-index l.nets)
