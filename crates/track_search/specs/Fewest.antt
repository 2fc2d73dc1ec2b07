-- What the search for the fewest tracks ends with.
use Rattle.std.specs.Prelude.{ℕ, ◌<◌, ◌≤◌, List}
use Rattle.cell_num.specs.declared.finger.Fingers.{Fingers}
use Rattle.cell_num.specs.declared.finger.Row.{Row}
use Rattle.cell_num.specs.declared.net.NetNo.{NetNo}
use Rattle.cell_num.specs.declared.net.Pins.{Pins}
use Rattle.row_model.specs.declared.column.Column.{Column}
use Rattle.row_model.specs.Arrangement.{IsArrangement}
use Rattle.row_model.specs.Gaps.{gaps_of}
use Rattle.row_place.specs.Places.{placement_of}
use Rattle.channel_route.specs.declared.routing.Routing.{Routing}
use Rattle.channel_route.specs.declared.routing.Trunk.{Trunk}
use Rattle.channel_route.specs.Routing.{IsLegal}
use Rattle.channel_route.specs.Wiring.{wiring_of}
use Rattle.row_state.specs.declared.kind.Kinds.{Kinds}
use Rattle.row_state.specs.declared.state.State.{State}
use Rattle.row_state.specs.Start.{AreKinds}
use Rattle.track_ways.specs.Channel.{AreTrunks}
use Rattle.track_ways.specs.Lines.{StraightFits}
use Rattle.track_ways.specs.declared.lemma.TrackLemma.{TrackLemma}
use Rattle.track_search.specs.declared.fewest.Fewest.{Fewest}
use Rattle.track_search.specs.declared.fewest.Fewest.TheVariants as ended
use Rattle.track_search.specs.FewestBy.{IsOpenBy, ProveBy}
use Rattle.track_search.specs.Limit.{IsFirstRow}

-- the lemmas certify that no row has one track less, where the tracks are some
abbrev pub Prove : (Row → State → Kinds → ℕ) → Pins → Kinds → ℕ → ℕ → List TrackLemma → Type 0
Prove = ProveBy StraightFits

-- the row is the first on the tracks, and none has fewer
pub record IsFirstOn
    (value : Row → State → Kinds → ℕ) (pins : Pins) (k : Kinds) (gaps : ℕ) (row : List Column) (tracks : ℕ)
    (lemmas : List TrackLemma) : Type 0 where
  pub first : IsFirstRow pins tracks k gaps row
  pub proved : Prove value pins k gaps tracks lemmas

abbrev pub IsFewest : (Row → State → Kinds → ℕ) → Pins → Kinds → ℕ → Fewest → Type 0
IsFewest value pins k gaps (ended.Found row tracks lemmas) = IsFirstOn value pins k gaps row tracks lemmas
IsFewest value pins k gaps (ended.Open proved lemmas) = Prove value pins k gaps proved lemmas

-- each legal routing of an arrangement with at most that many gaps takes that many tracks or more
abbrev pub TakeAtLeast : Pins → Kinds → ℕ → ℕ → Type 0
TakeAtLeast pins k gaps tracks =
    (f : Fingers) (row : List Column) (r : Routing) → AreKinds f k → IsArrangement row f → gaps_of row ≤ gaps
    → IsLegal (placement_of row) pins r → tracks ≤ r.tracks

abbrev pub TakeTracks : Pins → Kinds → ℕ → Fewest → Type 0
TakeTracks pins k gaps (ended.Found row tracks lemmas) = TakeAtLeast pins k gaps tracks
TakeTracks pins k gaps (ended.Open proved lemmas) = TakeAtLeast pins k gaps proved

-- one track for each net: trunks on these tracks are a legal routing on exactly that many
pub record HasLegalTracks (pins : Pins) (row : List Column) (tracks : ℕ) : Type 0 where
  pub track : NetNo → ℕ
  pub legal : (trunks : List Trunk) → AreTrunks (placement_of row) pins track trunks
      → IsLegal (placement_of row) pins (wiring_of tracks trunks)

abbrev pub AreLegalTracks : Pins → Fewest → Type 0
AreLegalTracks pins (ended.Found row tracks lemmas) = HasLegalTracks pins row tracks
AreLegalTracks pins (ended.Open proved lemmas) = Unit {0}

-- how many tracks each row takes at least, by either answer
abbrev pub least_of : Fewest → ℕ
least_of (ended.Found row tracks lemmas) = tracks
least_of (ended.Open proved lemmas) = proved

abbrev pub lemmas_of : Fewest → List TrackLemma
lemmas_of (ended.Found row tracks lemmas) = lemmas
lemmas_of (ended.Open proved lemmas) = lemmas

-- a row has fewer tracks than the most, and no more are proved
abbrev pub AreAtMost : ℕ → Fewest → Type 0
AreAtMost most (ended.Found row tracks lemmas) = tracks < most
AreAtMost most (ended.Open proved lemmas) = proved ≤ most

-- no row has tracks below the most, or the budget is spent
abbrev pub IsOpen : (Row → State → Kinds → ℕ) → Pins → Kinds → ℕ → ℕ → ℕ → Fewest → Type 0
IsOpen = IsOpenBy StraightFits
