-- The state that a line of a certificate lists: of what is open at its level, the places that classes list, the odd
-- nodes of pools, and the balances.
use Rattle.std.specs.Prelude.{ℕ, ◌+◌, ◌-◌, ◌%◌, ◌==◌, ◌&&◌, Bool, true, false, ltb, List, [], Option, Some, None}
use Rattle.std.specs.Prelude.{count_by, find, if◌then◌else◌, map, option_map, slice_get, unwrap_or}
use Rattle.std.specs.List.{filter, filter_map, list_any}
use Rattle.cell_num.specs.declared.finger.Row.{Row}
use Rattle.cell_num.specs.declared.finger.Row.TheVariants.{P, N}
use Rattle.trail_state.specs.declared.edge.Node.{Node}
use Rattle.trail_state.specs.declared.state.Place.{Place}
use Rattle.open_gates.specs.Merged.{net_in}
use Rattle.trail_check.specs.Listed.{is_listed, number_of}
use Rattle.trail_pools.specs.declared.level.OpenPlaces.{OpenPlaces}
use Rattle.trail_pools.specs.declared.level.PoolLevel.{PoolLevel}
use Rattle.trail_pools.specs.declared.pools.Pools.{Pools}
use Rattle.trail_pools.specs.declared.state.Balance.{Balance}
use Rattle.trail_pools.specs.declared.state.PoolState.{PoolState}
use Rattle.trail_pools.specs.Levels.{none_open}
use Rattle.trail_pools.specs.State.{no_balance, open_pools}
use Rattle.pool_log.specs.declared.balance.PoolBalance.{PoolBalance}
use Rattle.pool_log.specs.declared.balance.Surplus.{Surplus}
use Rattle.pool_log.specs.declared.balance.Surplus.TheVariants as surplus
use Rattle.pool_log.specs.declared.class.PlaceClass.{PlaceClass}
use Rattle.pool_log.specs.declared.lemma.PoolLine.{PoolLine}
use Rattle.pool_log.specs.declared.place.ListedPlace.{ListedPlace}
use Rattle.pool_log.specs.declared.place.ListedPlace.TheVariants as place

-- ---- balances

abbrev pub balance_of : ℕ → Surplus → Balance
balance_of net (surplus.Waiting nodes) = record { net = net; waiting = nodes; free = 0 }
balance_of net (surplus.Free ends) = record { net = net; waiting = 0; free = ends }

-- the balance that the line lists for the net, or none
abbrev pub balance_listed : List PoolBalance → ℕ → Balance
balance_listed balances net = unwrap_or
    (option_map (λ (b : PoolBalance). balance_of net b.surplus) (find (λ (b : PoolBalance). b.net.0 == net) balances))
    (no_balance net)

-- Each open pool has a balance. Before the first gate there is none, as in the state where an order begins.
abbrev pub balances_listed : ℕ → List Node → PoolLine → List Balance
balances_listed n places line =
    if line.done == 0 then [] else map (balance_listed line.balances) (open_pools n places)

-- ---- places

abbrev pub is_row : Row → Row → Bool
is_row P P = true
is_row N N = true
is_row _ _ = false

-- the place has this number, where nodes are below n and pools those of the row
abbrev pub has_number : ℕ → Row → ℕ → ListedPlace → Bool
has_number n r v (place.Node pair) = number_of pair == v
has_number n r v (place.Pool row net) = is_row r row && (n + net.0 == v)

abbrev pub is_in : ℕ → Row → List ListedPlace → Node → Bool
is_in n r places node = list_any (has_number n r node.0) places

-- the first of the places that the class lists
abbrev pub name_of : ℕ → Row → List Node → List ListedPlace → Node → Node
name_of n r all places node = unwrap_or (find (is_in n r places) all) node

-- those of the open nodes of pools that are odd
abbrev pub odd_listed : List Node → PoolLine → List Node
odd_listed nodes line = filter (is_listed line.odd) nodes

-- An edge or half edge at a pool turns one of its nodes or is a free end. So their number is odd as the number of odd
-- nodes, of those that wait and of the free ends is, and a node that waits and a free end balance each other.
abbrev pub is_odd_pool : Row → List Node → Balance → ℕ → Bool
is_odd_pool r odd balance net =
    (count_by (λ (v : Node). net_in r v.0 == net) odd + balance.waiting + balance.free) % 2 == 1

-- by the odd nodes of pools
abbrev pub is_odd_place : ℕ → Row → List Node → PoolLine → Node → Bool
is_odd_place n r odd line node =
    if ltb node.0 n then is_listed line.odd node
    else is_odd_pool r odd (balance_listed line.balances (node.0 - n)) (node.0 - n)

abbrev pub place_in : ℕ → Row → List Node → List Node → PoolLine → Node → PlaceClass → Place
place_in n r places odd line node class = record {
  node = node;
  class = name_of n r places class.places node;
  odd = is_odd_place n r odd line node;
  flagged = class.flagged;
}

-- the place, if a class lists it
abbrev pub place_listed : ℕ → Row → List Node → List Node → PoolLine → Node → Option Place
place_listed n r places odd line node = option_map (place_in n r places odd line node)
    (find (λ (class : PlaceClass). is_in n r class.places node) line.classes)

abbrev pub places_listed : ℕ → Row → List Node → List Node → PoolLine → List Place
places_listed n r places odd line = filter_map (place_listed n r places odd line) places

-- ---- the state

-- what is open after so many gates: nothing after the last
abbrev pub open_at : Option PoolLevel → OpenPlaces
open_at None = none_open
open_at (Some level) = level.now

-- these places are open, and these nodes of pools
abbrev pub state_of : ℕ → Row → List Node → List Node → PoolLine → PoolState
state_of n r places nodes line = record {
  places = places_listed n r places (odd_listed nodes line) line;
  odd = odd_listed nodes line;
  balances = balances_listed n places line;
}

abbrev pub state_listed : Pools → List PoolLevel → PoolLine → PoolState
state_listed pools levels line = state_of pools.nodes pools.row (open_at (slice_get levels line.done)).places
    (open_at (slice_get levels line.done)).nodes line
