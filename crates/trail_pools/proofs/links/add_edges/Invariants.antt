use Rattle.std.proofs.Common.{◌≡◌, ◌++◌, map, take}
use Rattle.trail_halves.specs.Halves.{edge_placed}
use Rattle.trail_pools.specs.Leveled.{has_pool}
use Rattle.trail_pools.proofs.links.add_edges.Given as goal

abbrev pub invariant-loop-edge : goal.invariant-loop-edge
invariant-loop-edge l =
    l.all.items ≡ l.fn.all.items
    ++ map (edge_placed l.pools.nodes l.pools.row (has_pool l.pools)) (take l.edge-index l.edges)
