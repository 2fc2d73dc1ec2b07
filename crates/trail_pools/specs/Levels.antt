-- The gates of an order with what they and later gates can meet, and the ends that every list of choices results in.
use Rattle.std.specs.Prelude.{ℕ, ◌≡◌, ◌≢◌, ◌+◌, ◌-◌, ◌*◌, ◌<◌, ◌≤◌, Bool, true, false, List, [], ◌∷◌, All, AllPairs}
use Rattle.std.specs.Prelude.{Contains, IsPermutation}
use Rattle.std.specs.List.{AllZip}
use Rattle.cell_num.specs.declared.net.NetNo.{NetNo}
use Rattle.cell_num.specs.declared.finger.Row.{Row}
use Rattle.cell_num.specs.declared.finger.Fingers.{Fingers}
use Rattle.trail_state.specs.declared.edge.Node.{Node}
use Rattle.trail_state.specs.declared.edge.Edge.{Edge}
use Rattle.trail_state.specs.declared.edge.FingerEnds.{FingerEnds}
use Rattle.trail_state.specs.Settling.{is_open}
use Rattle.open_gates.specs.Merged.{net_in}
use Rattle.trail_halves.specs.Halves.{place_of}
use Rattle.trail_halves.specs.declared.choice.OpenChoice.{OpenChoice}
use Rattle.trail_halves.specs.Open.{IsOpenChoice}
use Rattle.trail_pools.specs.declared.level.OpenPlaces.{OpenPlaces}
use Rattle.trail_pools.specs.declared.level.PoolLevel.{PoolLevel}
use Rattle.trail_pools.specs.declared.state.PoolState.{PoolState}
use Rattle.trail_pools.specs.State.{ends_after, state_after}

abbrev pub none_open : OpenPlaces
none_open = record { places = []; nodes = [] }

-- nodes are below n, and those with one of the nets in the row are a pool
module _ (n : ℕ) (r : Row) (pool : ℕ → Bool) where
  -- the node's place is open, and the node where it is in a pool
  pub record IsOpenNode (open_places : OpenPlaces) (v : ℕ) : Type 0 where
    pub below : v < n
    pub place : is_open open_places.places (place_of n r pool v) ≡ true
    pub node : pool (net_in r v) ≡ true → is_open open_places.nodes v ≡ true

  abbrev pub IsOpenEdge : OpenPlaces → Edge → Type 0
  IsOpenEdge o e = IsOpenNode o e.a.0 × IsOpenNode o e.b.0

  -- both pools of a half edge are open
  abbrev pub IsOpenHalf : OpenPlaces → FingerEnds → Type 0
  IsOpenHalf o half = (is_open o.places (n + half.lo) ≡ true) × (is_open o.places (n + half.hi) ≡ true)

  -- the choice meets open places and nodes alone
  pub record MeetsOpen (open_places : OpenPlaces) (choice : OpenChoice) : Type 0 where
    pub edges : All (IsOpenEdge open_places) choice.edges
    pub halves : All (IsOpenHalf open_places) choice.halves

  -- a node in no pool, or a pool
  pub record IsPlace (p : Node) : Type 0 where
    pub below : p.0 < 2 * n
    pub is_node : p.0 < n → pool (net_in r p.0) ≡ false
    pub is_pool : n ≤ p.0 → pool (p.0 - n) ≡ true

  -- A pool is open as long as one of its nodes is. So it is shut where no later gate can meet a node of it, by its
  -- fingers or by a filling, nor end free on its net.
  pub record ArePlaces (open_places : OpenPlaces) : Type 0 where
    pub once : AllPairs (λ (a b : Node). a.0 ≢ b.0) open_places.places
    pub are : All IsPlace open_places.places
    pub pools : (v : ℕ) → pool (net_in r v) ≡ true → is_open open_places.nodes v ≡ true
        → is_open open_places.places (n + net_in r v) ≡ true

  -- what is open later is open now
  pub record AreFewer (next now : OpenPlaces) : Type 0 where
    pub places : (p : ℕ) → is_open next.places p ≡ true → is_open now.places p ≡ true
    pub nodes : (v : ℕ) → is_open next.nodes v ≡ true → is_open now.nodes v ≡ true

  -- from the state on, each list of choices, one of each gate, results in at least that many ends
  abbrev pub PoolEnds : List PoolLevel → PoolState → ℕ → Type 0
  PoolEnds [] s k = k ≡ 0
  PoolEnds (l ∷ ls) s k =
      (c : OpenChoice) → Contains l.choices c
      → PoolEnds ls (state_after n r pool l.next s c l.now) (k - ends_after n r pool l.next s c l.now)

  -- the ends of one list of choices
  abbrev pub ends_along : List PoolLevel → PoolState → List OpenChoice → ℕ
  ends_along (l ∷ ls) s (c ∷ cs) =
      ends_after n r pool l.next s c l.now + ends_along ls (state_after n r pool l.next s c l.now) cs
  ends_along _ s _ = 0

-- one of the choices has these edges and half edges, in some order
pub record IsListed (choices : List OpenChoice) (choice : OpenChoice) : Type 0 where
  pub it : OpenChoice
  pub there : Contains choices it
  pub edges : IsPermutation choice.edges it.edges
  pub halves : IsPermutation choice.halves it.halves

pub record IsLevel (n : ℕ) (f : Fingers) (r : Row) (counted pool : ℕ → Bool) (gate : NetNo) (level : PoolLevel)
    : Type 0 where
  pub places : ArePlaces n r pool level.now
  pub fewer : AreFewer n r pool level.next level.now
  pub meets : All (MeetsOpen n r pool level.now) level.choices
  pub all_choices : (c : OpenChoice) → IsOpenChoice f r counted gate.0 c → IsListed level.choices c

-- what is open before the first level
abbrev pub first_open : List PoolLevel → OpenPlaces
first_open [] = none_open
first_open (l ∷ ls) = l.now

-- After a gate the places of the next level are open, and none after the last gate.
abbrev pub AreLevels : Fingers → Row → (ℕ → Bool) → (ℕ → Bool) → List NetNo → List PoolLevel → Type 0
AreLevels f r counted pool [] [] = Unit {0}
AreLevels f r counted pool (g ∷ gs) (l ∷ ls) =
    IsLevel (256 * f.nets) f r counted pool g l × (l.next ≡ first_open ls) × AreLevels f r counted pool gs ls
AreLevels f r counted pool _ _ = ⊥

-- a list with one choice of each level
abbrev pub AreListed : List PoolLevel → List OpenChoice → Type 0
AreListed levels choices = AllZip (λ (l : PoolLevel) (c : OpenChoice). Contains l.choices c) levels choices
