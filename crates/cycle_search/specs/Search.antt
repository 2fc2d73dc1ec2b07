-- What the search for a row without a cycle ends with.
use Rattle.std.specs.Prelude.{ℕ, ◌≡◌, ◌≤◌, ◌<◌, ◌⊎◌, List, [], All, length}
use Rattle.std.specs.List.{AllPairs}
use Rattle.cell_num.specs.declared.finger.Fingers.{Fingers}
use Rattle.cell_num.specs.declared.finger.Row.{Row}
use Rattle.cell_num.specs.declared.net.Pins.{Pins}
use Rattle.row_model.specs.declared.column.Column.{Column}
use Rattle.row_model.specs.Arrangement.{IsArrangement}
use Rattle.row_model.specs.Gaps.{gaps_of}
use Rattle.row_state.specs.declared.kind.Kinds.{Kinds}
use Rattle.row_state.specs.declared.state.State.{State}
use Rattle.row_state.specs.Order.{RowBefore}
use Rattle.row_state.specs.Start.{AreKinds}
use Rattle.track_ways.specs.Rows.{lines_of_row}
use Rattle.row_cycles.specs.declared.lemma.CycleLemma.{CycleLemma}
use Rattle.cycle_search.specs.declared.search.WiredRow.{WiredRow}
use Rattle.cycle_search.specs.declared.search.WiredRow.TheVariants as ended
use Rattle.row_cycles.specs.Above.{HasCycle, above_of}
use Rattle.row_cycles.specs.Certificate.{AreJustified, Certifies, Covers}
use Rattle.row_cycles.specs.Fits.{IsWithin}

-- the row is an arrangement with at most that many gaps and no cycle, and it precedes all others
pub record IsFirstWired (pins : Pins) (k : Kinds) (gaps : ℕ) (row : List Column) : Type 0 where
  pub arranges : (f : Fingers) → AreKinds f k → IsArrangement row f
  pub within : gaps_of row ≤ gaps
  pub free : HasCycle (above_of pins (lines_of_row row)) → ⊥
  pub first : (f : Fingers) (other : List Column) → AreKinds f k → IsArrangement other f → gaps_of other ≤ gaps
      → (HasCycle (above_of pins (lines_of_row other)) → ⊥) → (row ≡ other) ⊎ RowBefore row other

-- no lemma follows from an earlier one: that is on another state, on fewer gaps, or asks for more
abbrev pub AreNew : List CycleLemma → Type 0
AreNew lemmas = AllPairs (λ earlier lemma. Covers lemma.state lemma.gaps lemma.above earlier → ⊥) lemmas

-- lemmas on at most that many gaps: each is justified, and none follows from an earlier one
pub record AreKept
    (value : Row → State → Kinds → ℕ) (pins : Pins) (k : Kinds) (gaps : ℕ) (lemmas : List CycleLemma) : Type 0 where
  pub justified : AreJustified value pins k lemmas
  pub own : AreNew lemmas
  pub within : All (IsWithin k gaps) lemmas

-- why the search is spent: it keeps more lemmas than the budget allows
pub record IsSpent (value : Row → State → Kinds → ℕ) (pins : Pins) (k : Kinds) (gaps budget : ℕ) : Type 0 where
  pub lemmas : List CycleLemma
  pub kept : AreKept value pins k gaps lemmas
  pub more : budget < length lemmas

abbrev pub IsEnd : (Row → State → Kinds → ℕ) → Pins → Kinds → ℕ → WiredRow → Type 0
IsEnd value pins k gaps (ended.Found row) = IsFirstWired pins k gaps row
IsEnd value pins k gaps (ended.None lemmas) = Certifies value pins k gaps lemmas
IsEnd value pins k gaps ended.Spent = Unit {0}

-- No lemma of a certificate follows from an earlier one, and there are no more than the budget. The budget is spent for
-- a reason.
abbrev pub HasReason : (Row → State → Kinds → ℕ) → Pins → Kinds → ℕ → ℕ → WiredRow → Type 0
HasReason value pins k gaps budget (ended.Found row) = Unit {0}
HasReason value pins k gaps budget (ended.None lemmas) =
    AreKept value pins k gaps lemmas × (length lemmas ≤ budget)
HasReason value pins k gaps budget ended.Spent = IsSpent value pins k gaps budget

abbrev pub lemmas_in : WiredRow → List CycleLemma
lemmas_in (ended.None lemmas) = lemmas
lemmas_in _ = []
