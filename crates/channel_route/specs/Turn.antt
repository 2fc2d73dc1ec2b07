-- A walk down along constraints that comes back to where it was.
use Rattle.std.specs.Prelude.{ℕ, ◌≡◌, ◌<◌, ◌≤◌, ◌⊎◌, ◌==◌, ◌&&◌, Bool, true}
use Rattle.std.specs.Prelude.{List, [], ◌∷◌, count_by, AllPairs, Contains}
use Rattle.std.specs.List.{list_any}
use Rattle.channel_route.specs.declared.routing.Above.{Above}
use Rattle.channel_route.specs.declared.constraint.Constraint.{Constraint}
use Rattle.channel_route.specs.declared.cycle.Step.{Step}
use Rattle.channel_route.specs.declared.wire.Wire.{Wire}
use Rattle.channel_route.specs.Walk.{Entries, IsWalk, ComesTo}
use Rattle.channel_route.specs.Graph.{has_key}

-- a wire of a walk is told by its key
abbrev pub steps : Entries Step
steps = record { key = λ s. s.wire.key; line = λ s. s.line }

-- the net of the wire of a step
abbrev pub above_of : Step → Above
above_of s = record { net = s.wire.net; line = s.line }

abbrev pub IsOver : List Constraint → ℕ → ℕ → ℕ → Type 0
IsOver constraints upper lower line = Contains constraints (record { upper = upper; lower = lower; line = line })

-- a constraint of the key over one that is left
abbrev pub leads : List Wire → ℕ → Constraint → Bool
leads left key c = (c.upper == key) && has_key left c.lower

-- the wire of the key stands above one that is left
abbrev pub waits_at : List Wire → ℕ → List Constraint → Bool
waits_at left key constraints = list_any (leads left key) constraints

-- at the first line at which the upper one stands above one that is left, and the least key of those
pub record IsDown (left : List Wire) (constraints : List Constraint) (upper lower : ℕ) (line : ℕ) : Type 0 where
  pub over : IsOver constraints upper lower line
  pub left' : has_key left lower ≡ true
  pub first : (c : Constraint) → Contains constraints c → leads left upper c ≡ true →
      (line < c.line) ⊎ ((line ≡ c.line) × (lower ≤ c.lower))

-- in order of line; those of one upper wire at one line in order of the lower one's key
abbrev pub IsNoLater : Constraint → Constraint → Type 0
IsNoLater a b = (a.line < b.line) ⊎ ((a.line ≡ b.line) × (a.upper ≡ b.upper → a.lower ≤ b.lower))

abbrev pub AreInOrder : List Constraint → Type 0
AreInOrder constraints = AllPairs IsNoLater constraints

abbrev pub passes : {X : Type 0} → Entries X → List X → ℕ → Bool
passes e path key = list_any (λ a. e.key a == key) path

-- a closed walk over different keys, to which a walk comes from a key
abbrev pub IsTurn : {X : Type 0} → Entries X → (ℕ → ℕ → ℕ → Type 0) → ℕ → List X → Type 0
IsTurn e Over start [] = ⊥
IsTurn e Over start (first ∷ rest) =
    IsWalk e Over (first ∷ rest) (e.key first) × ((n : ℕ) → count_by (λ a. e.key a == n) (first ∷ rest) ≤ 1)
    × ComesTo e Over start (e.key first)
