use Rattle.std.proofs.Common.{◌≡◌, map, take}
use Rattle.std.specs.List.{flat_map}
use Rattle.trail_state.specs.Edges.{pair_node}
use Rattle.trail_state.specs.Places.{node_at}
use Rattle.trail_state.proofs.nodes.pairs.Given as goal

abbrev pub invariant-loop-p_net : goal.invariant-loop-p_net
invariant-loop-p_net l = l.nodes.items ≡ flat_map (λ p. map (λ n. node_at (pair_node p n)) l.n_nets) (take l.p_net-index l.p_nets)
