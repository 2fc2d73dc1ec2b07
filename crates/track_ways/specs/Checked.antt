-- What a checker goes through: listed tracks and the lists of lemmas alone.
use Rattle.std.specs.Prelude.{ℕ, ◌≡◌, ◌+◌, ◌≤◌, ◌⊎◌, List, [], All, Any, Contains}
use Rattle.cell_num.specs.declared.net.Pins.{Pins}
use Rattle.cell_num.specs.declared.finger.Row.{Row}
use Rattle.row_state.specs.declared.kind.Kinds.{Kinds}
use Rattle.row_state.specs.declared.state.State.{State}
use Rattle.row_state.specs.declared.step.Step.{Step}
use Rattle.row_state.specs.Completion.{cost_of}
use Rattle.row_state.specs.Start.{HasFingers}
use Rattle.row_state.specs.Steps.{IsPossible, column_of, state_after}
use Rattle.track_ways.specs.declared.track.NetTrack.{NetTrack}
use Rattle.track_ways.specs.Ways.{LineWays, ends_ways_by, goes_ways_by, line_ways}
use Rattle.track_ways.specs.declared.lemma.TrackLemma.{TrackLemma}
use Rattle.track_ways.specs.Certificate.{IsValid, NeedsMore}

-- the lemma is about the state, as many gaps or more, and tracks that are listed
pub record CoversListed (s : State) (gaps : ℕ) (way : List NetTrack) (lemma : TrackLemma) : Type 0 where
  pub state : lemma.state ≡ s
  pub enough : gaps ≤ lemma.gaps
  pub tracks : All (Contains way) lemma.tracks

abbrev pub IsRefutedListed :
    (Row → State → Kinds → ℕ) → Kinds → List TrackLemma → State → ℕ → List NetTrack → Type 0
IsRefutedListed value k earlier s gaps way =
    NeedsMore value k s gaps ⊎ Any (CoversListed s gaps way) earlier

-- All listed tracks after each possible next column that does not cost more than the gaps are refuted, and none are
-- listed after the last line where no finger is left.
pub record BranchesListedBy
    (ways : LineWays) (value : Row → State → Kinds → ℕ) (pins : Pins) (limit : ℕ) (k : Kinds)
    (earlier : List TrackLemma) (lemma : TrackLemma) : Type 0 where
  pub steps : (step : Step) (left : ℕ) → IsPossible k lemma.state step
      → cost_of lemma.state (column_of k step) + left ≡ lemma.gaps
      → All (IsRefutedListed value k earlier (state_after k lemma.state step) left)
      (goes_ways_by ways pins limit k lemma.state lemma.tracks step)
  pub ends : (HasFingers k lemma.state → ⊥) → ends_ways_by ways pins limit k lemma.state lemma.tracks ≡ []

-- a valid lemma, by the bound of a row or by what a checker goes through
pub record IsJustifiedListedBy
    (ways : LineWays) (value : Row → State → Kinds → ℕ) (pins : Pins) (limit : ℕ) (k : Kinds)
    (earlier : List TrackLemma) (lemma : TrackLemma) : Type 0 where
  pub valid : IsValid pins k lemma
  pub holds :
      NeedsMore value k lemma.state lemma.gaps ⊎ BranchesListedBy ways value pins limit k earlier lemma

-- the same where nets go straight
abbrev pub BranchesListed : (Row → State → Kinds → ℕ) → Pins → ℕ → Kinds → List TrackLemma → TrackLemma → Type 0
BranchesListed = BranchesListedBy line_ways

abbrev pub IsJustifiedListed :
    (Row → State → Kinds → ℕ) → Pins → ℕ → Kinds → List TrackLemma → TrackLemma → Type 0
IsJustifiedListed = IsJustifiedListedBy line_ways
