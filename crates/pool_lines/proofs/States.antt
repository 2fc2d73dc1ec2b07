-- States of what is open: their lines list them.
use Rattle.std.specs.Prelude.{ℕ, ◌≡◌, ◌≢◌, ◌-◌, ◌==◌, ◌<◌, ◌≤◌, ◌⊎◌, Bool, false, List, [], AllPairs, Contains}
use Rattle.std.specs.Prelude.{if◌then◌else◌, map, option_map, unwrap_or}
use Rattle.cell_num.specs.declared.finger.Row.{Row}
use Rattle.trail_state.specs.declared.edge.Node.{Node}
use Rattle.trail_state.specs.declared.state.Place.{Place}
use Rattle.trail_state.specs.Places.{place_of}
use Rattle.trail_pools.specs.declared.level.OpenPlaces.{OpenPlaces}
use Rattle.trail_pools.specs.declared.state.Balance.{Balance}
use Rattle.trail_pools.specs.declared.state.PoolState.{PoolState}
use Rattle.trail_pools.specs.State.{balance_in, open_pools}
use Rattle.pool_lines.specs.Listed.{is_odd_pool}

abbrev pub Ascend : List Node → Type 0
Ascend nodes = AllPairs (λ (a b : Node). a.0 < b.0) nodes

-- What is open is in ascending order. The nodes of pools are below n, and none of them is a place.
pub record AreOpen (n : ℕ) (open_places : OpenPlaces) : Type 0 where
  pub places : Ascend open_places.places
  pub nodes : Ascend open_places.nodes
  pub below : (v : Node) → Contains open_places.nodes v → v.0 < n
  pub apart : (v p : Node) → Contains open_places.nodes v → Contains open_places.places p → v.0 ≢ p.0

-- a place at the node of this number, which names its own class
pub record Names (places : List Place) (name : ℕ) : Type 0 where
  pub it : Place
  pub there : Contains places it
  pub node : it.node.0 ≡ name
  pub class : it.class.0 ≡ name

-- Places at some of the nodes, in ascending order. The first place of a class names it, and all of its places have one
-- flag.
pub record ArePlacesAt (nodes : List Node) (places : List Place) : Type 0 where
  pub ascend : AllPairs (λ (p q : Place). p.node.0 < q.node.0) places
  pub within : (p : Place) → Contains places p → Contains nodes p.node
  pub low : (p : Place) → Contains places p → p.class.0 ≤ p.node.0
  pub named : (p : Place) → Contains places p → Names places p.class.0
  pub alike : (p q : Place) → Contains places p → Contains places q → p.class.0 ≡ q.class.0 → p.flagged ≡ q.flagged

-- each open pool has a balance, in ascending order, and none has one before the first gate; one of its two numbers is 0
pub record AreBalancesOf (n done : ℕ) (nodes : List Node) (balances : List Balance) : Type 0 where
  pub nets : map (λ (b : Balance). b.net) balances ≡ (if done == 0 then [] else open_pools n nodes)
  pub ascend : AllPairs (λ (a b : Balance). a.net < b.net) balances
  pub one : (b : Balance) → Contains balances b → (b.waiting ≡ 0) ⊎ (b.free ≡ 0)

-- the place is odd, where there is one
abbrev pub is_odd_at : List Place → ℕ → Bool
is_odd_at places v = unwrap_or (option_map (λ (p : Place). p.odd) (place_of places v)) false

-- The state is of what is open after so many gates. An open pool is odd as its odd nodes and its balance say.
pub record IsStateOf (n : ℕ) (r : Row) (done : ℕ) (open_places : OpenPlaces) (s : PoolState) : Type 0 where
  pub places : ArePlacesAt open_places.places s.places
  pub ascend : Ascend s.odd
  pub odd : (v : Node) → Contains s.odd v → Contains open_places.nodes v
  pub balances : AreBalancesOf n done open_places.places s.balances
  pub parity : (p : Node) → Contains open_places.places p → n ≤ p.0
      → is_odd_at s.places p.0 ≡ is_odd_pool r s.odd (balance_in s.balances (p.0 - n)) (p.0 - n)
