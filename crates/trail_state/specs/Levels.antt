-- The gates of an order with their choices, and the ends of trails that every list of choices results in.
use Rattle.std.specs.Prelude.{ℕ, ◌≡◌, ◌≢◌, ◌+◌, ◌-◌, ◌<◌, List, [], ◌∷◌, Option, Some, AllPairs, All, Contains, find}
use Rattle.cell_num.specs.declared.net.NetNo.{NetNo}
use Rattle.cell_num.specs.declared.finger.Fingers.{Fingers}
use Rattle.cell_num.specs.Fingers.{on_gate}
use Rattle.trail_state.specs.declared.edge.Node.{Node}
use Rattle.trail_state.specs.declared.edge.Edge.{Edge}
use Rattle.trail_state.specs.declared.state.Place.{Place}
use Rattle.trail_state.specs.Settling.{ends_after, state_after}
use Rattle.trail_state.specs.declared.level.Level.{Level}
use Rattle.trail_state.specs.declared.level.LevelStop.{LevelStop}
use Rattle.trail_state.specs.declared.level.LevelStop.TheVariants as stop
use Rattle.trail_state.specs.Pairings.{choices_of, has_long_front}
use Rattle.trail_state.specs.Nodes.{open_nodes}

-- a gate of some finger
abbrev pub IsGate : Fingers → ℕ → Type 0
IsGate f g = 0 < on_gate g f.p + on_gate g f.n

-- each gate of a finger once, and no other
pub record IsOrder (f : Fingers) (order : List NetNo) : Type 0 where
  pub once : AllPairs (λ (a b : NetNo). a.0 ≢ b.0) order
  pub gates : All (λ (g : NetNo). IsGate f g.0) order
  pub all_gates : (g : NetNo) → IsGate f g.0 → Contains order g

pub record IsLevel (f : Fingers) (gate : NetNo) (later : List NetNo) (level : Level) : Type 0 where
  pub now : level.now ≡ open_nodes f (gate ∷ later)
  pub next : level.next ≡ open_nodes f later
  pub choices : level.choices ≡ choices_of f gate.0

-- the nodes of the first level
abbrev pub first_now : List Level → List Node
first_now [] = []
first_now (l ∷ ls) = l.now

abbrev pub AreLevels : Fingers → List NetNo → List Level → Type 0
AreLevels f [] [] = Unit {0}
AreLevels f (g ∷ gs) (l ∷ ls) = IsLevel f g gs l × AreLevels f gs ls
AreLevels f _ _ = ⊥

-- the first gate of the order with more ways than that to pair the fingers of its first columns
abbrev pub first_long : ℕ → Fingers → List NetNo → Option NetNo
first_long most f order = find (λ (gate : NetNo). has_long_front most f gate.0) order

-- the levels of the order are not listed for this cause
abbrev pub StopsAt : ℕ → Fingers → List NetNo → LevelStop → Type 0
StopsAt most f order (stop.Long gate) = first_long most f order ≡ Some gate
StopsAt most f order stop.NoMemory = Unit {0}

-- from the state on, each list of choices, one of each gate, results in at least that many ends
abbrev pub Ends : List Level → List Place → ℕ → Type 0
Ends [] s k = k ≡ 0
Ends (l ∷ ls) s k =
    (c : List Edge) → Contains l.choices c → Ends ls (state_after l.now l.next s c) (k - ends_after l.now l.next s c)
