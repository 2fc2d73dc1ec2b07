-- What the search for a row with tracks below a limit ends with, by any rule of how tracks go through a line.
use Rattle.std.specs.Prelude.{ℕ, ◌≡◌, ◌≤◌, ◌⊎◌, List, [], length}
use Rattle.cell_num.specs.declared.finger.Fingers.{Fingers}
use Rattle.cell_num.specs.declared.finger.Row.{Row}
use Rattle.cell_num.specs.declared.net.NetNo.{NetNo}
use Rattle.cell_num.specs.declared.net.Pins.{Pins}
use Rattle.row_model.specs.declared.column.Column.{Column}
use Rattle.row_model.specs.Arrangement.{IsArrangement}
use Rattle.row_model.specs.Gaps.{gaps_of}
use Rattle.row_state.specs.declared.kind.Kinds.{Kinds}
use Rattle.row_state.specs.declared.state.State.{State}
use Rattle.row_state.specs.Order.{RowBefore}
use Rattle.row_state.specs.Start.{AreKinds}
use Rattle.track_ways.specs.Lines.{LineRule, SweepsBy, is_ahead}
use Rattle.track_ways.specs.Rows.{lines_of_row}
use Rattle.track_ways.specs.Certificate.{CertifiesBy}
use Rattle.track_search.specs.declared.limit.Limit.{Limit}
use Rattle.track_search.specs.declared.limit.Limit.TheVariants as ended
use Rattle.track_search.specs.Kept.{AreKeptBy, IsSpentBelowBy}

-- tracks below the limit go through all lines of the row; of those before the first line none counts
pub record HasTracksBy (rule : LineRule) (pins : Pins) (limit : ℕ) (row : List Column) : Type 0 where
  pub track : NetNo → ℕ
  pub sweeps : SweepsBy rule pins limit (is_ahead []) track (lines_of_row row)

-- the row is an arrangement with at most that many gaps and has tracks below the limit, and it precedes all others that
-- have
pub record IsFirstRowBy (rule : LineRule) (pins : Pins) (limit : ℕ) (k : Kinds) (gaps : ℕ) (row : List Column)
    : Type 0 where
  pub arranges : (f : Fingers) → AreKinds f k → IsArrangement row f
  pub within : gaps_of row ≤ gaps
  pub tracks : HasTracksBy rule pins limit row
  pub first : (f : Fingers) (other : List Column) → AreKinds f k → IsArrangement other f → gaps_of other ≤ gaps
      → HasTracksBy rule pins limit other → (row ≡ other) ⊎ RowBefore row other

abbrev pub IsEndBy : LineRule → (Row → State → Kinds → ℕ) → Pins → ℕ → Kinds → ℕ → Limit → Type 0
IsEndBy rule value pins limit k gaps (ended.Found row) = IsFirstRowBy rule pins limit k gaps row
IsEndBy rule value pins limit k gaps (ended.Refuted lemmas) = CertifiesBy rule value pins limit k gaps lemmas
IsEndBy rule value pins limit k gaps ended.Spent = Unit {0}

-- no arrangement with at most that many gaps has tracks below the limit
abbrev pub NoneHasTracks : LineRule → Pins → ℕ → Kinds → ℕ → Type 0
NoneHasTracks rule pins limit k gaps =
    (f : Fingers) (row : List Column) → AreKinds f k → IsArrangement row f → gaps_of row ≤ gaps
    → HasTracksBy rule pins limit row → ⊥

-- so it is where lemmas are the answer
abbrev pub IfRefutedBy : LineRule → Pins → ℕ → Kinds → ℕ → Limit → Type 0
IfRefutedBy rule pins limit k gaps (ended.Refuted lemmas) = NoneHasTracks rule pins limit k gaps
IfRefutedBy rule pins limit k gaps _ = Unit {0}

-- No lemma of a certificate follows from an earlier one, and there are no more than the budget. The budget is spent for
-- a reason.
abbrev pub HasReasonBy : LineRule → (Row → State → Kinds → ℕ) → Pins → ℕ → Kinds → ℕ → ℕ → Limit → Type 0
HasReasonBy rule value pins limit k gaps budget (ended.Found row) = Unit {0}
HasReasonBy rule value pins limit k gaps budget (ended.Refuted lemmas) =
    AreKeptBy rule value pins limit k gaps lemmas × (length lemmas ≤ budget)
HasReasonBy rule value pins limit k gaps budget ended.Spent = IsSpentBelowBy rule value pins limit k gaps budget
