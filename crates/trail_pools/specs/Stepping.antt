-- What inner contracts of the step to a next state cite.
use Rattle.std.specs.Prelude.{ℕ, ◌+◌, ◌-◌, ◌*◌, ◌==◌, ◌&&◌, ◌||◌, Bool, true, not, if◌then◌else◌, ltb, List, [], ◌∷◌}
use Rattle.std.specs.Prelude.{count_by, fold, map, sum_by}
use Rattle.std.specs.List.{filter, list_any, range_with_len}
use Rattle.std.specs.Set.{sorted_merge}
use Rattle.cell_num.specs.declared.finger.Row.{Row}
use Rattle.trail_state.specs.declared.edge.Edge.{Edge}
use Rattle.trail_state.specs.declared.edge.FingerEnds.{FingerEnds}
use Rattle.trail_state.specs.declared.edge.Node.{Node}
use Rattle.trail_state.specs.declared.state.Place.{Place}
use Rattle.trail_state.specs.Nodes.{node_cmp}
use Rattle.trail_state.specs.Places.{differ, node_at}
use Rattle.trail_state.specs.Settling.{closing_of, has_class, is_open, kept_of, name_in}
use Rattle.open_gates.specs.Merged.{net_in}
use Rattle.trail_check.specs.Graph.{is_odd}
use Rattle.trail_halves.specs.Halves.{free, short}
use Rattle.trail_halves.specs.declared.choice.OpenChoice.{OpenChoice}
use Rattle.trail_pools.specs.declared.closed.ClosedPlace.{ClosedPlace}
use Rattle.trail_pools.specs.declared.level.OpenPlaces.{OpenPlaces}
use Rattle.trail_pools.specs.declared.settle.PoolSettled.{PoolSettled}
use Rattle.trail_pools.specs.declared.state.Balance.{Balance}
use Rattle.trail_pools.specs.declared.state.PoolState.{PoolState}
use Rattle.trail_pools.specs.State.{balance_in, balanced, open_pools}

-- ---- nodes that can be odd

-- the node beside the others, where it is below n
abbrev pub with_below : ℕ → List Node → Node → List Node
with_below n nodes v = if ltb v.0 n then sorted_merge node_cmp true nodes (v ∷ []) else nodes

abbrev pub with_ends_of : ℕ → List Node → Edge → List Node
with_ends_of n nodes e = with_below n (with_below n nodes e.a) e.b

-- the nodes that were odd and the ends of edges, in ascending order
abbrev pub candidates : ℕ → List Node → List Edge → List Node
candidates n odd edges = fold (with_ends_of n) (fold (with_below n) [] odd) edges

-- ---- odd nodes of pools

module _ (r : Row) (pool : ℕ → Bool) (odd : List Node) (edges : List Edge) where
  abbrev pub is_odd_pooled : ℕ → Bool
  is_odd_pooled v = pool (net_in r v) && differ (is_open odd v) (is_odd edges v)

  abbrev pub odd_pooled : ℕ → List ℕ
  odd_pooled n = filter is_odd_pooled (range_with_len 0 n)

-- those that no later gate can meet
abbrev pub shut_of : List Node → List ℕ → List ℕ
shut_of next odd = filter (λ v. not (is_open next v)) odd

-- ---- balances

abbrev pub count_of : Row → List ℕ → ℕ → ℕ
count_of r shut net = count_by (λ v. net_in r v == net) shut

-- the balance with these odd nodes and half edges more
abbrev pub next_balance : Row → List ℕ → List Balance → List FingerEnds → ℕ → Balance
next_balance r shut balances halves net =
    balanced net ((balance_in balances net).waiting + count_of r shut net)
    ((balance_in balances net).free + free halves net)

-- ---- places that close

-- the ends at a place, where nodes are below n
abbrev pub place_ends : ℕ → (ℕ → Balance) → Place → ℕ
place_ends n balance p =
    if ltb p.node.0 n then (if p.odd then 1 else 0)
    else short (balance (p.node.0 - n)).waiting (balance (p.node.0 - n)).free

abbrev pub closed_place : (Place → ℕ) → Place → ClosedPlace
closed_place ends p = record { place = p; ends = ends p }

abbrev pub closed_of : (Place → ℕ) → List Place → List ClosedPlace
closed_of ends closing = map (closed_place ends) closing

-- one of the places is of the class and has an end
abbrev pub has_some : List ClosedPlace → ℕ → Bool
has_some closed h = list_any (λ (c : ClosedPlace). (c.place.class.0 == h) && not (c.ends == 0)) closed

module _ (kept : List Place) (closed : List ClosedPlace) where
  abbrev pub is_closed : Place → Bool
  is_closed p =
      (p.node.0 == p.class.0) && not p.flagged && not (has_class kept p.class.0) && not (has_some closed p.class.0)

  abbrev pub all_ends : ℕ
  all_ends = sum_by (λ (c : ClosedPlace). c.ends) closed + 2 * count_by (λ (c : ClosedPlace). is_closed c.place) closed

  abbrev pub place_left : Place → Place
  place_left p = record {
    node = p.node;
    class = name_in kept p;
    odd = p.odd;
    flagged = p.flagged || has_some closed p.class.0;
  }

-- ---- the step

-- odd nodes of pools after the choice, and all places with its edges and half edges
module _ (n : ℕ) (r : Row) (next : OpenPlaces) (state : PoolState) (choice : OpenChoice) (odd : List ℕ)
    (joined : List Place) where
  abbrev pub balance : ℕ → Balance
  balance = next_balance r (shut_of next.nodes odd) state.balances choice.halves

  abbrev pub closed_places : List ClosedPlace
  closed_places = closed_of (place_ends n balance) (closing_of next.places joined)

  abbrev pub settled : PoolSettled
  settled = record {
    state = record {
      places = map (place_left (kept_of next.places joined) closed_places) (kept_of next.places joined);
      odd = map node_at (filter (is_open next.nodes) odd);
      balances = map balance (open_pools n next.places);
    };
    ends = all_ends (kept_of next.places joined) closed_places;
  }
