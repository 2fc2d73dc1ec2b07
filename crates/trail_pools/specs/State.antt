-- States along an order of gates whose half columns stay open: places with their classes, odd nodes of pools, and the
-- balance of each pool.
use Rattle.std.specs.Prelude.{ℕ, ◌+◌, ◌-◌, ◌*◌, ◌^◌, ◌==◌, ◌&&◌, ◌||◌, Bool, not, if◌then◌else◌, leb, ltb, List}
use Rattle.std.specs.Prelude.{[], map, count_by, find, sum_by, unwrap_or}
use Rattle.std.specs.List.{filter, list_all, list_any, range_with_len}
use Rattle.cell_num.specs.declared.finger.Row.{Row}
use Rattle.row_trails.specs.Trails.{size}
use Rattle.trail_state.specs.declared.edge.Node.{Node}
use Rattle.trail_state.specs.declared.state.Place.{Place}
use Rattle.trail_state.specs.Places.{differ, node_at, with_edges}
use Rattle.trail_state.specs.Settling.{closing_of, has_class, is_open, kept_of, name_in}
use Rattle.open_gates.specs.Merged.{net_in}
use Rattle.trail_check.specs.Graph.{is_odd}
use Rattle.trail_halves.specs.Halves.{free, links, short}
use Rattle.trail_halves.specs.declared.choice.OpenChoice.{OpenChoice}
use Rattle.trail_pools.specs.declared.level.OpenPlaces.{OpenPlaces}
use Rattle.trail_pools.specs.declared.state.Balance.{Balance}
use Rattle.trail_pools.specs.declared.state.PoolState.{PoolState}

-- the state before the first gate
abbrev pub start : PoolState
start = record { places = []; odd = []; balances = [] }

abbrev pub no_balance : ℕ → Balance
no_balance net = record { net = net; waiting = 0; free = 0 }

abbrev pub balance_in : List Balance → ℕ → Balance
balance_in balances net = unwrap_or (find (λ (b : Balance). b.net == net) balances) (no_balance net)

-- both numbers are at most 2 ^ 31
abbrev pub is_small : Balance → Bool
is_small b = leb b.waiting (2 ^ 31) && leb b.free (2 ^ 31)

abbrev pub are_small : PoolState → Bool
are_small s = list_all is_small s.balances

-- the lesser number is taken from both
abbrev pub balanced : ℕ → ℕ → ℕ → Balance
balanced net waiting free = record { net = net; waiting = waiting - free; free = free - waiting }

-- the nets of the pools among some places, where nodes are below n
abbrev pub open_pools : ℕ → List Node → List ℕ
open_pools n places = map (λ (p : Node). p.0 - n) (filter (λ (p : Node). leb n p.0) places)

-- places that close, by the ends at each of them
module _ (ends : Place → ℕ) where
  abbrev pub has_ends : List Place → ℕ → Bool
  has_ends closing h = list_any (λ (p : Place). (p.class.0 == h) && not (ends p == 0)) closing

  -- the place names a class of which no place stays and that has no end
  abbrev pub is_closed_trail : List Place → List Place → Place → Bool
  is_closed_trail kept closing p =
      (p.node.0 == p.class.0) && not p.flagged && not (has_class kept p.class.0)
      && not (has_ends closing p.class.0)

  -- the ends at places that close, and two of each closed trail
  abbrev pub ends_settled : List Place → List Place → ℕ
  ends_settled kept closing = sum_by ends closing + 2 * count_by (is_closed_trail kept closing) closing

  abbrev pub left_place : List Place → List Place → Place → Place
  left_place kept closing p = record {
    node = p.node;
    class = name_in kept p;
    odd = p.odd;
    flagged = p.flagged || has_ends closing p.class.0;
  }

  abbrev pub places_left : List Place → List Place → List Place
  places_left kept closing = map (left_place kept closing) kept

-- A choice of a gate: nodes are below n, and those with one of the nets in the row are a pool. The places `now` can be
-- met by this gate and later ones, those of `next` by later ones.
module _ (n : ℕ) (r : Row) (pool : ℕ → Bool) (next : OpenPlaces) (state : PoolState) (choice : OpenChoice) where
  -- the node is in a pool, and odd by all edges so far
  abbrev pub is_odd_after : ℕ → Bool
  is_odd_after v = pool (net_in r v) && differ (is_open state.odd v) (is_odd choice.edges v)

  -- how many odd nodes of the net no later gate can meet
  abbrev pub odd_closing : ℕ → ℕ
  odd_closing net = size n (λ v. (net_in r v == net) && (is_odd_after v && not (is_open next.nodes v)))

  abbrev pub balance_after : ℕ → Balance
  balance_after net =
      balanced net ((balance_in state.balances net).waiting + odd_closing net)
      ((balance_in state.balances net).free + free choice.halves net)

  -- a pool's ends are those that its balance is short of
  abbrev pub pool_closing : ℕ → ℕ
  pool_closing net = short (balance_after net).waiting (balance_after net).free

  -- the ends at a place that closes
  abbrev pub ends_at : Place → ℕ
  ends_at p = if ltb p.node.0 n then (if p.odd then 1 else 0) else pool_closing (p.node.0 - n)

  abbrev pub odd_left : List Node
  odd_left = map node_at (filter (λ v. is_odd_after v && is_open next.nodes v) (range_with_len 0 n))

  abbrev pub balances_left : List Balance
  balances_left = map balance_after (open_pools n next.places)

  module _ (now : OpenPlaces) where
    -- the places of the state with the choice's edges and half edges
    abbrev pub joined_places : List Place
    joined_places = with_edges now.places state.places (links n r pool choice.edges choice.halves)

    abbrev pub kept : List Place
    kept = kept_of next.places joined_places

    abbrev pub closing : List Place
    closing = closing_of next.places joined_places

    abbrev pub state_after : PoolState
    state_after = record {
      places = places_left ends_at kept closing;
      odd = odd_left;
      balances = balances_left;
    }

    abbrev pub ends_after : ℕ
    ends_after = ends_settled ends_at kept closing
