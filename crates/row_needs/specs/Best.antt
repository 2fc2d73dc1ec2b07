-- The rows with the fewest gaps of those that begin with some of the next columns of a state.
use Rattle.std.specs.Prelude.{ℕ, ◌≡◌, ◌≤◌, ◌<◌, ◌⊎◌, List, ◌∷◌, All, Contains, length}
use Rattle.row_model.specs.declared.column.Column.{Column}
use Rattle.row_model.specs.Gaps.{gaps_of}
use Rattle.row_state.specs.declared.candidate.Candidate.{Candidate}
use Rattle.row_state.specs.declared.kind.Kinds.{Kinds}
use Rattle.row_state.specs.declared.state.State.{State}
use Rattle.row_state.specs.Completion.{Completes, left_in}
use Rattle.row_state.specs.Start.{IsState, columns_left}
use Rattle.row_state.specs.Steps.{IsPossible, column_of, state_after}
use Rattle.row_needs.specs.declared.left_ends.LeftEnds.{LeftEnds}
use Rattle.row_needs.specs.declared.needs.Needs.{Needs}
use Rattle.row_needs.specs.declared.rest.Rest.{Rest}
use Rattle.row_needs.specs.Rest.{HasRest, IsStart, ends_before}

-- a row with that many gaps and these ends is taken into account
pub record Takes (before : Rest) (gaps : ℕ) (ends : LeftEnds) (after : Rest) : Type 0 where
  pub low : after.gaps ≤ gaps
  pub less : 0 < length before.starts → after.gaps ≤ before.gaps
  pub here : after.gaps ≡ gaps → Contains after.starts ends
  pub kept : 0 < length before.starts → after.gaps ≡ before.gaps
      → (e : LeftEnds) → Contains before.starts e → Contains after.starts e
  pub only : (e : LeftEnds) → Contains after.starts e
      → ((e ≡ ends) × (after.gaps ≡ gaps)) ⊎ (Contains before.starts e × (after.gaps ≡ before.gaps))
  pub some : 0 < length after.starts

-- it was taken into account
pub record IsKnown (rest : Rest) (gaps : ℕ) (ends : LeftEnds) : Type 0 where
  pub some : 0 < length rest.starts
  pub low : rest.gaps ≤ gaps
  pub here : gaps ≡ rest.gaps → Contains rest.starts ends

-- so was each completion that begins with the column
abbrev pub SeesNext : Kinds → State → Rest → Candidate → Type 0
SeesNext k s rest c = (cs : List Column) → IsPossible k s c.step → Completes k (state_after k s c.step) cs
    → IsKnown rest (gaps_of (column_of k c.step ∷ cs)) (ends_before (column_of k c.step))

-- so was each that begins with one of these columns, and nothing else
pub record IsBest (k : Kinds) (s : State) (items : List Candidate) (rest : Rest) : Type 0 where
  pub sees : All (SeesNext k s rest) items
  pub each : All (IsStart (left_in k s) rest.gaps) rest.starts

-- the table has all that it had before
abbrev pub IsGrown : Kinds → Needs → Needs → Type 0
IsGrown k before after = (s : State) → HasRest k before s → HasRest k after s

-- what it has more is left in states with fewer columns left than that
abbrev pub AddsBelow : Kinds → ℕ → Needs → Needs → Type 0
AddsBelow k columns before after = (s : State) → IsState k s → columns ≤ columns_left k s
    → HasRest k after s → HasRest k before s

-- it has what the column leaves
abbrev pub HasNext : Kinds → State → Needs → Candidate → Type 0
HasNext k s needs c = IsPossible k s c.step → HasRest k needs (state_after k s c.step)
