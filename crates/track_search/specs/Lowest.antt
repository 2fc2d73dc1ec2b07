-- What the search for the lowest row ends with.
use Rattle.std.specs.Prelude.{ℕ, ◌≡◌, ◌≤◌, ◌⊎◌, List}
use Rattle.cell_num.specs.declared.finger.Fingers.{Fingers}
use Rattle.cell_num.specs.declared.finger.Row.{Row}
use Rattle.cell_num.specs.declared.net.Pins.{Pins}
use Rattle.row_model.specs.declared.column.Column.{Column}
use Rattle.row_model.specs.Arrangement.{IsArrangement}
use Rattle.row_model.specs.Gaps.{gaps_of}
use Rattle.row_place.specs.declared.placement.Placement.{Placement}
use Rattle.row_place.specs.Places.{placement_of}
use Rattle.row_place.specs.Trunks.{HasPins}
use Rattle.channel_route.specs.declared.routing.Routing.{Routing}
use Rattle.channel_route.specs.Routing.{IsLegal}
use Rattle.first_route.specs.Tries.{AreMore}
use Rattle.row_state.specs.declared.kind.Kinds.{Kinds}
use Rattle.row_state.specs.declared.state.State.{State}
use Rattle.row_state.specs.Order.{RowBefore}
use Rattle.row_state.specs.Start.{AreKinds}
use Rattle.track_ways.specs.declared.lemma.TrackLemma.{TrackLemma}
use Rattle.track_search.specs.Kept.{IsSpent}
use Rattle.track_search.specs.Limit.{IsFirstRow}
use Rattle.track_search.specs.declared.lowest.Lowest.{Lowest}
use Rattle.track_search.specs.declared.lowest.Lowest.TheVariants as ended

-- the row arranges the fingers of the kinds with at most that many gaps
pub record Arranges (k : Kinds) (gaps : ℕ) (row : List Column) : Type 0 where
  pub arranges : (f : Fingers) → AreKinds f k → IsArrangement row f
  pub within : gaps_of row ≤ gaps

-- in each such row each pin other than the rails has a place
abbrev pub HavePins : Pins → Kinds → ℕ → Type 0
HavePins pins k gaps = (row : List Column) → Arranges k gaps row → HasPins (placement_of row) pins

-- it precedes every other such row that has a legal routing on that many tracks
abbrev pub IsFirstLow : Pins → Kinds → ℕ → ℕ → List Column → Type 0
IsFirstLow pins k gaps tracks row =
    (f : Fingers) (other : List Column) (r : Routing) → AreKinds f k → IsArrangement other f → gaps_of other ≤ gaps
    → IsLegal (placement_of other) pins r → r.tracks ≤ tracks → (row ≡ other) ⊎ RowBefore row other

-- what the search found has this property, where it found a row
abbrev pub IfFound : (Placement → Routing → Type 0) → Lowest → Type 0
IfFound holds (ended.Found placement routing lemmas) = holds placement routing
IfFound holds (ended.Open proved lemmas) = Unit {0}

-- how many tracks each row takes at least, by either answer
abbrev pub least_of : Lowest → ℕ
least_of (ended.Found placement routing lemmas) = routing.tracks
least_of (ended.Open proved lemmas) = proved

abbrev pub lemmas_of : Lowest → List TrackLemma
lemmas_of (ended.Found placement routing lemmas) = lemmas
lemmas_of (ended.Open proved lemmas) = lemmas

-- why the tries are spent: of the first row on that many tracks, there are more of them than the budget has
pub record AreTriesSpent (pins : Pins) (k : Kinds) (gaps tracks budget : ℕ) : Type 0 where
  pub row : List Column
  pub first : IsFirstRow pins tracks k gaps row
  pub more : AreMore (placement_of row) pins tracks budget

-- why the budget is spent: by the lemmas of the search for the row, or by the tries of the search for its routing
abbrev pub IsBudgetSpent : (Row → State → Kinds → ℕ) → Pins → Kinds → ℕ → ℕ → ℕ → Type 0
IsBudgetSpent value pins k gaps tracks budget =
    IsSpent value pins k gaps tracks budget ⊎ AreTriesSpent pins k gaps tracks budget

-- no row has tracks below the most, or the budget is spent
abbrev pub IsOpen : (Row → State → Kinds → ℕ) → Pins → Kinds → ℕ → ℕ → ℕ → Lowest → Type 0
IsOpen value pins k gaps most budget (ended.Found placement routing lemmas) = Unit {0}
IsOpen value pins k gaps most budget (ended.Open proved lemmas) =
    (proved ≡ most) ⊎ IsBudgetSpent value pins k gaps proved budget
