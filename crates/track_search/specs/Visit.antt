-- What one visit of a state promises.
use Rattle.std.specs.Prelude.{ℕ, ◌≡◌, ◌+◌, ◌<◌, ◌≤◌, ◌⊎◌, ◌++◌, true, List, [], All, Any, Contains, length}
use Rattle.std.specs.List.{AllPairs}
use Rattle.cell_num.specs.declared.finger.Row.{Row}
use Rattle.cell_num.specs.declared.net.Pins.{Pins}
use Rattle.row_state.specs.declared.kind.Kinds.{Kinds}
use Rattle.row_state.specs.declared.state.State.{State}
use Rattle.row_state.specs.declared.step.Step.{Step}
use Rattle.row_state.specs.Candidates.{IsNumbered}
use Rattle.row_state.specs.Completion.{cost_of}
use Rattle.row_state.specs.Start.{HasFingers, columns_left}
use Rattle.row_state.specs.Steps.{IsPossible, column_of, state_after}
use Rattle.track_ways.specs.Crowds.{step_uncrowded}
use Rattle.track_ways.specs.States.{is_behind, is_open_at, is_still_ahead}
use Rattle.track_ways.specs.Tracks.{AreKeys, IsSingle}
use Rattle.track_ways.specs.Lines.{LineRule}
use Rattle.track_ways.specs.Ways.{LineWays, ends_ways_by, goes_ways_by}
use Rattle.track_ways.specs.declared.track.NetTrack.{NetTrack}
use Rattle.track_ways.specs.declared.lemma.TrackLemma.{TrackLemma}
use Rattle.track_ways.specs.Checked.{CoversListed}
use Rattle.track_check.specs.Steps.{StepFailsListedBy}
use Rattle.track_search.specs.declared.ahead.Ahead.{Ahead}
use Rattle.track_search.specs.declared.progress.Progress.{Progress}
use Rattle.track_search.specs.Bare.{IsNoted}
use Rattle.track_search.specs.InOrder.{in_order}
use Rattle.track_search.specs.Kept.{AreKeptBy}

abbrev pub lemma_at : State → ℕ → List NetTrack → TrackLemma
lemma_at s gaps way = record { state = s; gaps = gaps; tracks = way }

-- the lemma that is kept of a way: its tracks are in order of their nets
abbrev pub kept_at : ℕ → State → ℕ → List NetTrack → TrackLemma
kept_at nets s gaps way = lemma_at s gaps (in_order nets way)

-- a lemma is about each way
abbrev pub AreCovered : List TrackLemma → State → ℕ → List (List NetTrack) → Type 0
AreCovered lemmas s gaps ways = All (λ way. Any (CoversListed s gaps way) lemmas) ways

-- one track each of some nets that are open at the state
pub record IsOfOpen (pins : Pins) (k : Kinds) (s : State) (way : List NetTrack) : Type 0 where
  pub open' : All (λ (t : NetTrack). is_open_at pins k s t.net ≡ true) way
  pub one : IsSingle way

-- each way lists the tracks of the nets that are open at the state
abbrev pub AreWaysAt : Pins → Kinds → State → List (List NetTrack) → Type 0
AreWaysAt pins k s ways = All (AreKeys pins (is_behind k s) (is_still_ahead k s)) ways

-- with tracks below the limit
abbrev pub AreBelow : ℕ → List NetTrack → Type 0
AreBelow limit way = All (λ (t : NetTrack). t.track < limit) way

-- the other lists only tracks of the way
abbrev pub HasPart : List NetTrack → List NetTrack → Type 0
HasPart way other = All (Contains way) other

-- no lemma is about any of the ways, and no way has all tracks of an earlier one
pub record AreFresh (lemmas : List TrackLemma) (s : State) (gaps : ℕ) (ways : List (List NetTrack)) : Type 0 where
  pub open' : All (λ way. Any (CoversListed s gaps way) lemmas → ⊥) ways
  pub apart : AllPairs (λ a b. HasPart b a → ⊥) ways

-- whatever the tracks are, the column leaves a lemma on the state justified
abbrev pub ColumnFails :
    LineWays → (Row → State → Kinds → ℕ) → Pins → ℕ → Kinds → List TrackLemma → State → ℕ → Step → Type 0
ColumnFails listing value pins limit k lemmas s allowed step =
    (way : List NetTrack) → StepFailsListedBy listing value pins limit k lemmas (lemma_at s allowed way) step

-- the state after a possible next column that leaves no line crowded, and the gaps that are left there
pub record IsAhead
    (pins : Pins) (limit : ℕ) (k : Kinds) (s : State) (allowed : ℕ) (step : Step) (ahead : Ahead) : Type 0 where
  pub possible : IsPossible k s step
  pub numbered : IsNumbered k ahead.state
  pub state : ahead.state.state ≡ state_after k s step
  pub left : cost_of s (column_of k step) + ahead.left ≡ allowed
  pub free : step_uncrowded pins limit k s step ≡ true

-- a lemma is about the way, or it has all tracks of one of the ways
abbrev pub IsTaken : List TrackLemma → State → ℕ → List (List NetTrack) → List NetTrack → Type 0
IsTaken lemmas s left ways way = Any (CoversListed s left way) lemmas ⊎ Any (HasPart way) ways

-- so it is of each way after the column from these tracks
abbrev pub AreTaken :
    LineWays → Pins → ℕ → Kinds → List TrackLemma → State → Step → State → ℕ → List (List NetTrack) → List NetTrack
    → Type 0
AreTaken listing pins limit k lemmas s step after left onward way =
    All (IsTaken lemmas after left onward) (goes_ways_by listing pins limit k s way step)

-- the way is one after the column, from one of the ways before it
abbrev pub GoOn : LineWays → Pins → ℕ → Kinds → State → Step → List (List NetTrack) → List NetTrack → Type 0
GoOn listing pins limit k s step ways next =
    Any (λ way. Contains (goes_ways_by listing pins limit k s way step) next) ways

-- of the found ways those of which no lemma speaks were added, as far as they are done
pub record AreAdded
    (lemmas : List TrackLemma) (s : State) (left : ℕ) (found done before after : List (List NetTrack))
    : Type 0 where
  pub more : List (List NetTrack)
  pub is : after ≡ before ++ more
  pub from : All (Contains found) more
  pub taken : All (IsTaken lemmas s left after) done

-- no tracks go through the last line
abbrev pub EndsFail : LineWays → Pins → ℕ → Kinds → State → List NetTrack → Type 0
EndsFail listing pins limit k s way = ends_ways_by listing pins limit k s way ≡ []

-- no finger is left, and tracks go through the last line
pub record EndsGo
    (listing : LineWays) (pins : Pins) (limit : ℕ) (k : Kinds) (s : State) (ways : List (List NetTrack))
    : Type 0 where
  pub none : HasFingers k s → ⊥
  pub go : Any (λ way. EndsFail listing pins limit k s way → ⊥) ways

-- Lemmas of a search are kept, no more of them than the budget, and noted.
pub record IsKept
    (rule : LineRule) (value : Row → State → Kinds → ℕ) (pins : Pins) (limit : ℕ) (k : Kinds) (gaps budget : ℕ)
    (progress : Progress) : Type 0 where
  pub kept : AreKeptBy rule value pins limit k gaps progress.lemmas
  pub few : length progress.lemmas ≤ budget
  pub noted : IsNoted value pins limit k progress

-- So they are after a visit. Those before it come first; the others are of states with fewer columns left than these.
pub record IsGrown
    (rule : LineRule) (value : Row → State → Kinds → ℕ) (pins : Pins) (limit : ℕ) (k : Kinds)
    (gaps budget columns : ℕ) (before after : Progress) : Type 0 where
  pub kept : IsKept rule value pins limit k gaps budget after
  pub more : List TrackLemma
  pub is : after.lemmas ≡ before.lemmas ++ more
  pub fewer : All (λ (lemma : TrackLemma). columns_left k lemma.state < columns) more

-- the first of some lemmas, which are more than the budget
pub record IsCutOff (budget : ℕ) (lemmas first : List TrackLemma) : Type 0 where
  pub rest : List TrackLemma
  pub is : lemmas ≡ first ++ rest
  pub more : budget < length first
