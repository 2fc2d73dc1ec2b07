-- A number of a state, by which lemmas on it can be looked up.
use Rattle.std.specs.Prelude.{ℕ, fold}
use Rattle.trail_state.specs.declared.edge.Node.{Node}
use Rattle.trail_check.specs.Indexed as places
use Rattle.trail_check.specs.Indexed.{mixed}
use Rattle.trail_pools.specs.declared.state.Balance.{Balance}
use Rattle.trail_pools.specs.declared.state.PoolState.{PoolState}

abbrev pub with_node : ℕ → Node → ℕ
with_node number v = mixed number v.0

abbrev pub with_balance : ℕ → Balance → ℕ
with_balance number b = mixed (mixed (mixed number b.net) b.waiting) b.free

-- Other states may share it.
abbrev pub state_number : ℕ → PoolState → ℕ
state_number done s =
    fold with_balance (fold with_node (places.state_number done s.places) s.odd) s.balances
