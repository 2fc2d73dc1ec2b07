use Rattle.std.proofs.Common.{◌≡◌, ◌++◌, map, take}
use Rattle.trail_state.specs.Edges.{pair_node}
use Rattle.trail_state.specs.Places.{node_at}
use Rattle.trail_state.proofs.nodes.add_pairs.Given as goal

abbrev pub invariant-loop-n_net : goal.invariant-loop-n_net
invariant-loop-n_net l = l.nodes.items ≡ l.fn.nodes.items ++ map (λ n. node_at (pair_node l.p_net n)) (take l.n_net-index l.n_nets)
