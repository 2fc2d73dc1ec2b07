-- What the search for the lowest row ends with, where nets may turn.
use Rattle.std.specs.Prelude.{ℕ, ◌≡◌, ◌≤◌, ◌⊎◌, List}
use Rattle.cell_num.specs.declared.finger.Fingers.{Fingers}
use Rattle.cell_num.specs.declared.finger.Row.{Row}
use Rattle.cell_num.specs.declared.net.Pins.{Pins}
use Rattle.row_model.specs.declared.column.Column.{Column}
use Rattle.row_model.specs.Arrangement.{IsArrangement}
use Rattle.row_model.specs.Gaps.{gaps_of}
use Rattle.row_place.specs.declared.placement.Placement.{Placement}
use Rattle.row_place.specs.Places.{placement_of}
use Rattle.row_state.specs.declared.kind.Kinds.{Kinds}
use Rattle.row_state.specs.declared.state.State.{State}
use Rattle.row_state.specs.Order.{RowBefore}
use Rattle.row_state.specs.Start.{AreKinds}
use Rattle.track_ways.specs.declared.lemma.TrackLemma.{TrackLemma}
use Rattle.track_search.specs.Kept.{IsSpentBy}
use Rattle.track_search.specs.LimitBy.{IsFirstRowBy}
use Rattle.dogleg_route.specs.declared.piece.PieceRouting.{PieceRouting}
use Rattle.dogleg_route.specs.Routings.{ArePiecesLegal}
use Rattle.piece_lines.specs.Lines.{PieceLineFits}
use Rattle.first_pieces.specs.Tries.{AreMorePieceTries}
use Rattle.piece_search.specs.declared.lowest.LowestPieces.{LowestPieces}
use Rattle.piece_search.specs.declared.lowest.LowestPieces.TheVariants as ended

-- each legal routing by pieces of an arrangement with at most that many gaps takes that many tracks or more
abbrev pub TakePiecesAtLeast : Pins → Kinds → ℕ → ℕ → Type 0
TakePiecesAtLeast pins k gaps tracks =
    (f : Fingers) (row : List Column) (r : PieceRouting) → AreKinds f k → IsArrangement row f → gaps_of row ≤ gaps
    → ArePiecesLegal (placement_of row) pins r → tracks ≤ r.tracks

-- it precedes every other such row that has a legal routing by pieces on that many tracks
abbrev pub IsFirstLowPieces : Pins → Kinds → ℕ → ℕ → List Column → Type 0
IsFirstLowPieces pins k gaps tracks row =
    (f : Fingers) (other : List Column) (r : PieceRouting) → AreKinds f k → IsArrangement other f
    → gaps_of other ≤ gaps → ArePiecesLegal (placement_of other) pins r → r.tracks ≤ tracks
    → (row ≡ other) ⊎ RowBefore row other

-- what the search found has this property, where it found a row
abbrev pub IfFound : (Placement → PieceRouting → Type 0) → LowestPieces → Type 0
IfFound holds (ended.Found placement routing lemmas) = holds placement routing
IfFound holds (ended.Open proved lemmas) = Unit {0}

-- how many tracks each row takes at least, by either answer
abbrev pub least_of : LowestPieces → ℕ
least_of (ended.Found placement routing lemmas) = routing.tracks
least_of (ended.Open proved lemmas) = proved

abbrev pub lemmas_of : LowestPieces → List TrackLemma
lemmas_of (ended.Found placement routing lemmas) = lemmas
lemmas_of (ended.Open proved lemmas) = lemmas

-- why the tries are spent: of the first row on that many tracks, there are more of them than the budget has
pub record ArePieceTriesSpent (pins : Pins) (k : Kinds) (gaps tracks budget : ℕ) : Type 0 where
  pub row : List Column
  pub first : IsFirstRowBy PieceLineFits pins tracks k gaps row
  pub more : AreMorePieceTries (placement_of row) pins tracks budget

-- why the budget is spent: by the lemmas of the search for the row, or by the tries of the search for its routing
abbrev pub IsPieceBudgetSpent : (Row → State → Kinds → ℕ) → Pins → Kinds → ℕ → ℕ → ℕ → Type 0
IsPieceBudgetSpent value pins k gaps tracks budget =
    IsSpentBy PieceLineFits value pins k gaps tracks budget ⊎ ArePieceTriesSpent pins k gaps tracks budget

-- no row has tracks below the most, or the budget is spent
abbrev pub IsOpenPieces : (Row → State → Kinds → ℕ) → Pins → Kinds → ℕ → ℕ → ℕ → LowestPieces → Type 0
IsOpenPieces value pins k gaps most budget (ended.Found placement routing lemmas) = Unit {0}
IsOpenPieces value pins k gaps most budget (ended.Open proved lemmas) =
    (proved ≡ most) ⊎ IsPieceBudgetSpent value pins k gaps proved budget
