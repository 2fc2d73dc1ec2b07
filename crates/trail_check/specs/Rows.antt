-- Rows and choices: which gaps are possible, and the fewest of them.
use Rattle.std.specs.Prelude.{ℕ, ◌≡◌, ◌-◌, ◌*◌, ◌/◌, ◌≤◌, List}
use Rattle.std.specs.List.{AllZip, flat_map}
use Rattle.cell_num.specs.declared.net.NetNo.{NetNo}
use Rattle.cell_num.specs.declared.finger.Fingers.{Fingers}
use Rattle.row_model.specs.declared.column.Column.{Column}
use Rattle.row_model.specs.Arrangement.{IsArrangement}
use Rattle.row_model.specs.Gaps.{gaps_of}
use Rattle.trail_state.specs.declared.edge.Edge.{Edge}
use Rattle.trail_state.specs.Choices.{IsChoice}
use Rattle.trail_check.specs.Graph.{ends_of}

-- one choice of each gate
abbrev pub AreChoices : Fingers → List NetNo → List (List Edge) → Type 0
AreChoices f order choices = AllZip (λ (g : NetNo) (c : List Edge). IsChoice f g.0 c) order choices

-- the ends of trails through all edges of the choices
abbrev pub ends_in : Fingers → List (List Edge) → ℕ
ends_in f choices = ends_of (256 * f.nets) (flat_map (λ (c : List Edge). c) choices)

-- the gaps of a row whose trails have so many ends: two for each stretch without a gap
abbrev pub gaps_with : ℕ → ℕ
gaps_with ends = ends / 2 - 1

-- an arrangement with at most so many gaps
pub record HasRow (f : Fingers) (gaps : ℕ) : Type 0 where
  pub row : List Column
  pub arranges : IsArrangement row f
  pub few : gaps_of row ≤ gaps

-- choices with at most so many ends
pub record HasChoices (f : Fingers) (order : List NetNo) (ends : ℕ) : Type 0 where
  pub choices : List (List Edge)
  pub each : AreChoices f order choices
  pub few : ends_in f choices ≤ ends

-- no arrangement has fewer gaps, and some has so many
pub record AreFewestGaps (f : Fingers) (gaps : ℕ) : Type 0 where
  pub row : List Column
  pub arranges : IsArrangement row f
  pub has : gaps_of row ≡ gaps
  pub fewest : (other : List Column) → IsArrangement other f → gaps ≤ gaps_of other

-- no choices have fewer ends, and some have so many
pub record AreFewestEnds (f : Fingers) (order : List NetNo) (ends : ℕ) : Type 0 where
  pub choices : List (List Edge)
  pub each : AreChoices f order choices
  pub have : ends_in f choices ≡ ends
  pub fewest : (others : List (List Edge)) → AreChoices f order others → ends ≤ ends_in f others
