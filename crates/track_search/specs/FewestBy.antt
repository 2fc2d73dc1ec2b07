-- What the search for the fewest tracks ends with, by any rule of how tracks go through a line.
use Rattle.std.specs.Prelude.{ℕ, ◌≡◌, ◌+◌, ◌≤◌, ◌⊎◌, List}
use Rattle.cell_num.specs.declared.finger.Fingers.{Fingers}
use Rattle.cell_num.specs.declared.finger.Row.{Row}
use Rattle.cell_num.specs.declared.net.Pins.{Pins}
use Rattle.row_model.specs.declared.column.Column.{Column}
use Rattle.row_model.specs.Arrangement.{IsArrangement}
use Rattle.row_model.specs.Gaps.{gaps_of}
use Rattle.row_state.specs.declared.kind.Kinds.{Kinds}
use Rattle.row_state.specs.declared.state.State.{State}
use Rattle.row_state.specs.Start.{AreKinds}
use Rattle.track_ways.specs.Lines.{LineRule}
use Rattle.track_ways.specs.declared.lemma.TrackLemma.{TrackLemma}
use Rattle.track_ways.specs.Certificate.{CertifiesBy}
use Rattle.track_search.specs.declared.fewest.Fewest.{Fewest}
use Rattle.track_search.specs.declared.fewest.Fewest.TheVariants as ended
use Rattle.track_search.specs.Kept.{IsSpentBy}
use Rattle.track_search.specs.LimitBy.{HasTracksBy, IsFirstRowBy}

-- the lemmas certify that no row has one track less, where the tracks are some
abbrev pub ProveBy : LineRule → (Row → State → Kinds → ℕ) → Pins → Kinds → ℕ → ℕ → List TrackLemma → Type 0
ProveBy rule value pins k gaps tracks lemmas =
    (limit : ℕ) → tracks ≡ limit + 1 → CertifiesBy rule value pins limit k gaps lemmas

-- the row is the first on the tracks, and none has fewer
pub record IsFirstOnBy
    (rule : LineRule) (value : Row → State → Kinds → ℕ) (pins : Pins) (k : Kinds) (gaps : ℕ) (row : List Column)
    (tracks : ℕ) (lemmas : List TrackLemma) : Type 0 where
  pub first : IsFirstRowBy rule pins tracks k gaps row
  pub proved : ProveBy rule value pins k gaps tracks lemmas

abbrev pub IsFewestBy : LineRule → (Row → State → Kinds → ℕ) → Pins → Kinds → ℕ → Fewest → Type 0
IsFewestBy rule value pins k gaps (ended.Found row tracks lemmas) =
    IsFirstOnBy rule value pins k gaps row tracks lemmas
IsFewestBy rule value pins k gaps (ended.Open proved lemmas) = ProveBy rule value pins k gaps proved lemmas

-- where an arrangement with at most that many gaps has tracks below a limit, the limit is that many tracks or more
abbrev pub TakeAtLeastBy : LineRule → Pins → Kinds → ℕ → ℕ → Type 0
TakeAtLeastBy rule pins k gaps tracks =
    (f : Fingers) (row : List Column) (limit : ℕ) → AreKinds f k → IsArrangement row f → gaps_of row ≤ gaps
    → HasTracksBy rule pins limit row → tracks ≤ limit

abbrev pub TakeTracksBy : LineRule → Pins → Kinds → ℕ → Fewest → Type 0
TakeTracksBy rule pins k gaps (ended.Found row tracks lemmas) = TakeAtLeastBy rule pins k gaps tracks
TakeTracksBy rule pins k gaps (ended.Open proved lemmas) = TakeAtLeastBy rule pins k gaps proved

-- no row has tracks below the most, or the budget is spent
abbrev pub IsOpenBy : LineRule → (Row → State → Kinds → ℕ) → Pins → Kinds → ℕ → ℕ → ℕ → Fewest → Type 0
IsOpenBy rule value pins k gaps most budget (ended.Found row tracks lemmas) = Unit {0}
IsOpenBy rule value pins k gaps most budget (ended.Open proved lemmas) =
    (proved ≡ most) ⊎ IsSpentBy rule value pins k gaps proved budget
