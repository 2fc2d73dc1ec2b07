use Rattle.std.proofs.Common.{◌≡◌, take}
use Rattle.trail_pools.specs.Choices.{with_all, with_column}
use Rattle.trail_pools.proofs.front.add_column.Given as goal

abbrev pub invariant-loop-edge : goal.invariant-loop-edge
invariant-loop-edge l =
    l.all.keys ≡ with_all l.fn.all.keys (with_column l.choice l.halves (take l.edge-index l.edges))
