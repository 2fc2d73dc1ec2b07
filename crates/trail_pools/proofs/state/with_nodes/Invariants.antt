use Rattle.std.proofs.Common.{◌≡◌, fold, take}
use Rattle.trail_pools.specs.Numbered.{with_node}
use Rattle.trail_pools.proofs.state.with_nodes.Given as goal

abbrev pub invariant-loop-node : goal.invariant-loop-node
invariant-loop-node l = l.mix ≡ fold with_node l.number (take l.node-index l.nodes)
