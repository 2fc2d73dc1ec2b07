-- States that are equal place by place, node by node and balance by balance.
use Rattle.std.specs.Prelude.{◌==◌, ◌&&◌, Bool}
use Rattle.std.specs.Cmp.Lexicographic.{pointwise}
use Rattle.trail_state.specs.declared.edge.Node.{Node}
use Rattle.trail_check.specs.Justified.{same_state}
use Rattle.trail_pools.specs.declared.state.Balance.{Balance}
use Rattle.trail_pools.specs.declared.state.PoolState.{PoolState}

abbrev pub same_node : Node → Node → Bool
same_node a b = a.0 == b.0

abbrev pub same_balance : Balance → Balance → Bool
same_balance a b = (a.net == b.net) && (a.waiting == b.waiting) && (a.free == b.free)

abbrev pub is_same : PoolState → PoolState → Bool
is_same a b =
    same_state a.places b.places && pointwise same_node a.odd b.odd && pointwise same_balance a.balances b.balances
