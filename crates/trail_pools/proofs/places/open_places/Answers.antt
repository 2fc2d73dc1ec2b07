use Rattle.std.proofs.Common.{rules, ◌≡◌, ◌++◌, not}
use Rattle.std.specs.List.{filter, range_with_len}
use Rattle.trail_state.specs.declared.edge.Node.{Node}
use Rattle.open_gates.specs.Merged.{net_in}
use Rattle.trail_pools.specs.Leveled.{has_pool}
use Rattle.trail_pools.specs.NodesMet.{is_pool_met, nodes_met, pool_places}
use Rattle.trail_pools.proofs.OpenFrom.{are_open}
use Rattle.trail_pools.proofs.places.open_places.Goals as goal

pub returns : goal.returns
returns c =
    let met : c.in_ok-met.met.items ≡ nodes_met c.args.fingers.now c.args.counted.now c.args.gates.now = search rules in
    let nets : c.in_ok-nets.nets.items
    ≡ filter (is_pool_met c.args.fingers.now c.args.counted.now c.args.pools.now c.in_ok-met.met.items c.args.gates.now)
    (range_with_len 0 c.args.pools.now.nodes) = search rules in
    let nodes : c.from_vec-2.result
    ≡ filter (λ (w : Node). has_pool c.args.pools.now (net_in c.args.pools.now.row w.0)) c.in_ok-met.met.items =
    search rules in
    let others : c.in_ok-places.places.items
    ≡ filter (λ (w : Node). not (has_pool c.args.pools.now (net_in c.args.pools.now.row w.0))) c.in_ok-met.met.items =
    search rules in
    let all : c.from_vec.result
    ≡ c.in_ok-places.places.items ++ pool_places c.args.pools.now.nodes c.in_ok-nets.nets.items = search rules in
    are_open c.args.fingers.now c.args.counted.now c.args.pools.now c.args.gates.now c.in_ok-met.met.items
    c.from_vec-2.result c.in_ok-places.places.items c.from_vec.result c.in_ok-nets.nets.items c.requires.fingers
    c.requires.pools met nets nodes others all
