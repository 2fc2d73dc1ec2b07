-- Choices that leave the columns open in which a finger of one row stands alone.
use Rattle.std.specs.Prelude.{ℕ, ◌≡◌, ◌*◌, ◌≤◌, Bool, true, false, List, [], Option, Some, None, All}
use Rattle.std.specs.Prelude.{IsPermutation}
use Rattle.std.specs.List.{AllZip, filter, filter_map, flat_map}
use Rattle.cell_num.specs.declared.net.NetNo.{NetNo}
use Rattle.cell_num.specs.declared.finger.Row.{Row}
use Rattle.cell_num.specs.declared.finger.Row.TheVariants.{P, N}
use Rattle.cell_num.specs.declared.finger.Finger.{Finger}
use Rattle.cell_num.specs.declared.finger.Fingers.{Fingers}
use Rattle.row_model.specs.declared.column.Placed.{Placed}
use Rattle.row_model.specs.declared.column.Column.{Column}
use Rattle.row_model.specs.Arrangement.{IsArrangement}
use Rattle.trail_state.specs.declared.edge.Edge.{Edge}
use Rattle.trail_state.specs.declared.edge.FingerEnds.{FingerEnds}
use Rattle.trail_state.specs.Choices.{AreEdgesOf, IsChoice, fingers_on}
use Rattle.trail_state.specs.Pairings.{nets_at}
use Rattle.trail_halves.specs.declared.choice.OpenChoice.{OpenChoice}
use Rattle.trail_halves.specs.Halves.{half_ends}

-- the fingers of the row
abbrev pub row_of : Row → Fingers → List Finger
row_of P f = f.p
row_of N f = f.n

-- the nets of a finger beside an empty place
abbrev pub half_of : Option Placed → Option Placed → Option FingerEnds
half_of None other = None
half_of (Some x) None = Some (nets_at x.finger)
half_of (Some x) (Some y) = None

-- the half edge of a column in which a finger of the row stands alone
abbrev pub half_in : Row → Column → Option FingerEnds
half_in P c = half_of c.p c.n
half_in N c = half_of c.n c.p

abbrev pub is_none : Option FingerEnds → Bool
is_none None = true
is_none (Some half) = false

abbrev pub is_filled : Row → Column → Bool
is_filled r c = is_none (half_in r c)

-- the edges of some columns that arrange the fingers of the gate, and the half edges of the others
pub record IsHalfOpen (f : Fingers) (r : Row) (gate : ℕ) (choice : OpenChoice) : Type 0 where
  pub columns : List Column
  pub arranges : IsArrangement columns (fingers_on gate f)
  pub edges : List Edge
  pub filled : AreEdgesOf f (filter (is_filled r) columns) edges
  pub listed : IsPermutation edges choice.edges
  pub halves : IsPermutation (filter_map (half_in r) columns) choice.halves

-- half columns of the row are open where the gate is counted, and the others are filled
abbrev pub IsOpenChoice : Fingers → Row → (ℕ → Bool) → ℕ → OpenChoice → Type 0
IsOpenChoice f r counted gate choice =
    (counted gate ≡ true → IsHalfOpen f r gate choice)
    × (counted gate ≡ false → IsChoice f gate choice.edges × (choice.halves ≡ []))

-- one choice of each gate
abbrev pub AreOpenChoices : Fingers → Row → (ℕ → Bool) → List NetNo → List OpenChoice → Type 0
AreOpenChoices f r counted order choices =
    AllZip (λ (g : NetNo) (c : OpenChoice). IsOpenChoice f r counted g.0 c) order choices

-- the nets of the row's fingers on counted gates have pools
abbrev pub ArePools : Fingers → Row → (ℕ → Bool) → (ℕ → Bool) → Type 0
ArePools f r counted pool =
    All (λ (x : Finger). counted x.gate.0 ≡ true → (pool x.lo.0 ≡ true) × (pool x.hi.0 ≡ true)) (row_of r f)

abbrev pub edges_in : List OpenChoice → List Edge
edges_in choices = flat_map (λ (c : OpenChoice). c.edges) choices

abbrev pub halves_in : List OpenChoice → List FingerEnds
halves_in choices = flat_map (λ (c : OpenChoice). c.halves) choices

abbrev pub open_ends : Fingers → Row → (ℕ → Bool) → List OpenChoice → ℕ
open_ends f r pool choices = half_ends (256 * f.nets) r pool (edges_in choices) (halves_in choices)

-- choices with at most so many ends
pub record HasOpenChoices (f : Fingers) (r : Row) (counted pool : ℕ → Bool) (order : List NetNo) (ends : ℕ)
    : Type 0 where
  pub choices : List OpenChoice
  pub each : AreOpenChoices f r counted order choices
  pub few : open_ends f r pool choices ≤ ends
