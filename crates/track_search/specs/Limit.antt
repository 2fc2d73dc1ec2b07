-- What the search for a row with tracks below a limit ends with.
use Rattle.std.specs.Prelude.{ℕ, ◌≡◌, ◌≤◌, ◌<◌, ◌⊎◌, List, []}
use Rattle.cell_num.specs.declared.finger.Fingers.{Fingers}
use Rattle.cell_num.specs.declared.finger.Row.{Row}
use Rattle.cell_num.specs.declared.net.NetNo.{NetNo}
use Rattle.cell_num.specs.declared.net.Pins.{Pins}
use Rattle.row_model.specs.declared.column.Column.{Column}
use Rattle.row_model.specs.Arrangement.{IsArrangement}
use Rattle.row_model.specs.Gaps.{gaps_of}
use Rattle.row_place.specs.Places.{placement_of}
use Rattle.channel_route.specs.declared.routing.Routing.{Routing}
use Rattle.channel_route.specs.declared.routing.Trunk.{Trunk}
use Rattle.channel_route.specs.Routing.{IsLegal}
use Rattle.row_state.specs.declared.kind.Kinds.{Kinds}
use Rattle.row_state.specs.declared.state.State.{State}
use Rattle.row_state.specs.Order.{RowBefore}
use Rattle.row_state.specs.Start.{AreKinds}
use Rattle.track_ways.specs.Channel.{AreLegalWithin, AreTrunks}
use Rattle.track_ways.specs.Lines.{Fits, StraightFits, is_ahead}
use Rattle.track_ways.specs.Rows.{lines_of_row}
use Rattle.track_ways.specs.Certificate.{Certifies}
use Rattle.track_search.specs.declared.limit.Limit.{Limit}
use Rattle.track_search.specs.declared.limit.Limit.TheVariants as ended
use Rattle.track_search.specs.LimitBy.{HasReasonBy}

-- one track below the limit for each net, which fits each line of the row: trunks on these tracks are legal, but that a
-- track may be empty
pub record HasTracks (pins : Pins) (limit : ℕ) (row : List Column) : Type 0 where
  pub track : NetNo → ℕ
  pub fits : Fits pins limit track (is_ahead []) (lines_of_row row)
  pub legal : (trunks : List Trunk) → AreTrunks (placement_of row) pins track trunks
      → AreLegalWithin (placement_of row) pins limit trunks

-- the row is an arrangement with at most that many gaps and has tracks below the limit, and it precedes all others that
-- have a legal routing on that many
pub record IsFirstRow (pins : Pins) (limit : ℕ) (k : Kinds) (gaps : ℕ) (row : List Column) : Type 0 where
  pub arranges : (f : Fingers) → AreKinds f k → IsArrangement row f
  pub within : gaps_of row ≤ gaps
  pub tracks : HasTracks pins limit row
  pub first : (f : Fingers) (other : List Column) (r : Routing) → AreKinds f k → IsArrangement other f
      → gaps_of other ≤ gaps → IsLegal (placement_of other) pins r → r.tracks ≤ limit
      → (row ≡ other) ⊎ RowBefore row other

abbrev pub IsEnd : (Row → State → Kinds → ℕ) → Pins → ℕ → Kinds → ℕ → Limit → Type 0
IsEnd value pins limit k gaps (ended.Found row) = IsFirstRow pins limit k gaps row
IsEnd value pins limit k gaps (ended.Refuted lemmas) = Certifies value pins limit k gaps lemmas
IsEnd value pins limit k gaps ended.Spent = Unit {0}

-- where no row has tracks below the limit, each legal routing has more tracks
abbrev pub NeedsMoreTracks : Pins → ℕ → Kinds → ℕ → Limit → Type 0
NeedsMoreTracks pins limit k gaps (ended.Refuted lemmas) =
    (f : Fingers) (row : List Column) (r : Routing) → AreKinds f k → IsArrangement row f → gaps_of row ≤ gaps
    → IsLegal (placement_of row) pins r → limit < r.tracks
NeedsMoreTracks pins limit k gaps _ = Unit {0}

-- No lemma of a certificate follows from an earlier one, and there are no more than the budget. The budget is spent for
-- a reason.
abbrev pub HasReason : (Row → State → Kinds → ℕ) → Pins → ℕ → Kinds → ℕ → ℕ → Limit → Type 0
HasReason = HasReasonBy StraightFits
