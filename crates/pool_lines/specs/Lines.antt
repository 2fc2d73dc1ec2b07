-- The line of a lemma on a state.
use Rattle.std.specs.Prelude.{ℕ, ◌-◌, ◌/◌, ◌%◌, ◌==◌, ◌&&◌, ◌||◌, Bool, not, ltb, List, if◌then◌else◌, map}
use Rattle.std.specs.List.{filter, list_any, range_with_len}
use Rattle.trail_state.specs.declared.edge.Node.{Node}
use Rattle.trail_state.specs.declared.state.Place.{Place}
use Rattle.trail_log.specs.declared.class.NetPair.{NetPair}
use Rattle.trail_pools.specs.declared.pools.Pools.{Pools}
use Rattle.trail_pools.specs.declared.state.Balance.{Balance}
use Rattle.trail_pools.specs.declared.state.PoolState.{PoolState}
use Rattle.pool_log.specs.declared.balance.PoolBalance.{PoolBalance}
use Rattle.pool_log.specs.declared.balance.Surplus.{Surplus}
use Rattle.pool_log.specs.declared.balance.Surplus.TheVariants as surplus
use Rattle.pool_log.specs.declared.class.PlaceClass.{PlaceClass}
use Rattle.pool_log.specs.declared.lemma.PoolLine.{PoolLine}
use Rattle.pool_log.specs.declared.place.ListedPlace.{ListedPlace}
use Rattle.pool_log.specs.declared.place.ListedPlace.TheVariants as place

abbrev pub pair_of : ℕ → NetPair
pair_of v = record { p = record { 0 = v / 256 }; n = record { 0 = v % 256 } }

-- the node is an odd place, or an odd node of a pool
abbrev pub is_odd_node : PoolState → ℕ → Bool
is_odd_node s v = list_any (λ (p : Place). (p.node.0 == v) && p.odd) s.places || list_any (λ (o : Node). o.0 == v) s.odd

-- the odd nodes, in ascending order
abbrev pub odd_nodes : Pools → PoolState → List NetPair
odd_nodes pools s = map pair_of (filter (is_odd_node s) (range_with_len 0 pools.nodes))

-- a place behind the nodes is a pool
abbrev pub place_of : Pools → Place → ListedPlace
place_of pools p =
    if ltb p.node.0 pools.nodes then place.Node (pair_of p.node.0)
    else place.Pool pools.row (record { 0 = p.node.0 - pools.nodes })

abbrev pub is_of : ℕ → Place → Bool
is_of class p = p.class.0 == class

-- the class that the place names
abbrev pub class_at : Pools → List Place → Place → PlaceClass
class_at pools all p = record { places = map (place_of pools) (filter (is_of p.class.0) all); flagged = p.flagged }

abbrev pub is_name : Place → Bool
is_name p = p.node.0 == p.class.0

abbrev pub classes_of : Pools → PoolState → List PlaceClass
classes_of pools s = map (class_at pools s.places) (filter is_name s.places)

abbrev pub is_even : Balance → Bool
is_even b = (b.waiting == 0) && (b.free == 0)

abbrev pub surplus_of : Balance → Surplus
surplus_of b = if b.waiting == 0 then surplus.Free b.free else surplus.Waiting b.waiting

abbrev pub balance_at : Balance → PoolBalance
balance_at b = record { net = record { 0 = b.net }; surplus = surplus_of b }

-- those that are not 0
abbrev pub balances_of : PoolState → List PoolBalance
balances_of s = map balance_at (filter (λ (b : Balance). not (is_even b)) s.balances)

abbrev pub line_of : Pools → ℕ → ℕ → PoolState → PoolLine
line_of pools bound done s = record {
  bound = bound;
  done = done;
  odd = odd_nodes pools s;
  balances = balances_of s;
  classes = classes_of pools s;
}
