use Rattle.std.proofs.Common.{◌≡◌, [], fold, take}
use Rattle.trail_pools.specs.Stepping.{with_below, with_ends_of}
use Rattle.trail_pools.proofs.candidates.candidates.Given as goal

abbrev pub invariant-loop-node : goal.invariant-loop-node
invariant-loop-node l = l.all.items ≡ fold (with_below l.n) [] (take l.node-index l.odd)

abbrev pub invariant-loop-edge : goal.invariant-loop-edge
invariant-loop-edge l =
    l.all.items ≡ fold (with_ends_of l.n) (fold (with_below l.n) [] l.odd) (take l.edge-index l.edges)
