-- Which lemmas on tracks are justified by a rule of tracks, and which lists of them certify that rows have more tracks.
use Rattle.std.specs.Prelude.{ℕ, ◌≡◌, ◌+◌, ◌<◌, ◌≤◌, ◌⊎◌, true, List, [], All, Any, length, take, slice_index_or}
use Rattle.cell_num.specs.declared.net.NetNo.{NetNo}
use Rattle.cell_num.specs.declared.net.Pins.{Pins}
use Rattle.cell_num.specs.declared.finger.Row.{Row}
use Rattle.cell_num.specs.declared.finger.Row.TheVariants.{P, N}
use Rattle.row_state.specs.declared.kind.Kinds.{Kinds}
use Rattle.row_state.specs.declared.state.State.{State}
use Rattle.row_state.specs.declared.step.Step.{Step}
use Rattle.row_state.specs.Completion.{cost_of}
use Rattle.row_state.specs.Start.{HasFingers, IsState, start_of}
use Rattle.row_state.specs.Steps.{IsPossible, column_of, state_after}
use Rattle.track_ways.specs.Fails.{FailsBy}
use Rattle.track_ways.specs.Lines.{LineRule, StraightFits}
use Rattle.track_ways.specs.Paths.{GoesBy, EndsBy, EndsFit}
use Rattle.track_ways.specs.States.{is_open_at}
use Rattle.track_ways.specs.declared.track.NetTrack.{NetTrack}
use Rattle.track_ways.specs.Tracks.{AreTracksOf, IsSingle}
use Rattle.track_ways.specs.declared.lemma.TrackLemma.{TrackLemma}

-- the lemma is about the state, as many gaps or more, and such tracks
pub record Covers (s : State) (gaps : ℕ) (track : NetNo → ℕ) (lemma : TrackLemma) : Type 0 where
  pub state : lemma.state ≡ s
  pub enough : gaps ≤ lemma.gaps
  pub tracks : AreTracksOf lemma.tracks track

-- the bound of a row is above the gaps
abbrev pub NeedsMore : (Row → State → Kinds → ℕ) → Kinds → State → ℕ → Type 0
NeedsMore value k s gaps = (gaps < value P s k) ⊎ (gaps < value N s k)

-- the state needs more gaps, or an earlier lemma is about it
abbrev pub IsRefuted : (Row → State → Kinds → ℕ) → Kinds → List TrackLemma → State → ℕ → (NetNo → ℕ) → Type 0
IsRefuted value k earlier s gaps track = NeedsMore value k s gaps ⊎ Any (Covers s gaps track) earlier

-- Each way of the tracks through the next column leads to a refuted state; where the column costs more than
-- the gaps there is none to show.
abbrev pub StepFailsBy :
    LineRule → (Row → State → Kinds → ℕ) → Pins → ℕ → Kinds → List TrackLemma → TrackLemma → Step → Type 0
StepFailsBy rule value pins limit k earlier lemma step =
    (track next : NetNo → ℕ) (left : ℕ) → AreTracksOf lemma.tracks track
    → GoesBy rule pins limit k lemma.state track step next → cost_of lemma.state (column_of k step) + left ≡ lemma.gaps
    → IsRefuted value k earlier (state_after k lemma.state step) left next

-- so does each possible next column; and where no finger is left, no tracks go through the last line
pub record BranchesBy
    (rule : LineRule) (value : Row → State → Kinds → ℕ) (pins : Pins) (limit : ℕ) (k : Kinds)
    (earlier : List TrackLemma) (lemma : TrackLemma) : Type 0 where
  pub steps : (step : Step) → IsPossible k lemma.state step → StepFailsBy rule value pins limit k earlier lemma step
  pub ends : (HasFingers k lemma.state → ⊥)
      → (track : NetNo → ℕ) → AreTracksOf lemma.tracks track → EndsBy rule pins limit k lemma.state track → ⊥

-- a lemma on a valid state, whose open ends are of fingers that were used, and on tracks of nets that are open there
pub record IsValid (pins : Pins) (k : Kinds) (lemma : TrackLemma) : Type 0 where
  pub state : IsState k lemma.state
  pub ends : EndsFit k lemma.state
  pub open' : All (λ (t : NetTrack). is_open_at pins k lemma.state t.net ≡ true) lemma.tracks
  pub one : IsSingle lemma.tracks

-- a valid lemma, by the bound of a row or by its next columns
pub record IsJustifiedBy
    (rule : LineRule) (value : Row → State → Kinds → ℕ) (pins : Pins) (limit : ℕ) (k : Kinds)
    (earlier : List TrackLemma) (lemma : TrackLemma) : Type 0 where
  pub valid : IsValid pins k lemma
  pub holds : NeedsMore value k lemma.state lemma.gaps ⊎ BranchesBy rule value pins limit k earlier lemma

-- each lemma is justified by those before it
abbrev pub AreJustifiedBy : LineRule → (Row → State → Kinds → ℕ) → Pins → ℕ → Kinds → List TrackLemma → Type 0
AreJustifiedBy rule value pins limit k lemmas =
    (i : ℕ) (d : TrackLemma) → i < length lemmas
    → IsJustifiedBy rule value pins limit k (take i lemmas) (slice_index_or lemmas i d)

-- no completion of its state with that many further gaps goes on from its tracks
abbrev pub IsTrueBy : LineRule → Pins → ℕ → Kinds → TrackLemma → Type 0
IsTrueBy rule pins limit k lemma =
    (track : NetNo → ℕ) → AreTracksOf lemma.tracks track → FailsBy rule pins limit k lemma.state track lemma.gaps

-- the lemma is about the state, as many gaps or more, and any tracks
pub record CoversAll (s : State) (gaps : ℕ) (lemma : TrackLemma) : Type 0 where
  pub state : lemma.state ≡ s
  pub enough : gaps ≤ lemma.gaps
  pub any : lemma.tracks ≡ []

-- all lemmas are justified, and one is about the start state, that many gaps and any tracks
pub record CertifiesBy
    (rule : LineRule) (value : Row → State → Kinds → ℕ) (pins : Pins) (limit : ℕ) (k : Kinds) (gaps : ℕ)
    (lemmas : List TrackLemma) : Type 0 where
  pub justified : AreJustifiedBy rule value pins limit k lemmas
  pub whole : Any (CoversAll (start_of k) gaps) lemmas

-- the same where nets go straight
abbrev pub Branches : (Row → State → Kinds → ℕ) → Pins → ℕ → Kinds → List TrackLemma → TrackLemma → Type 0
Branches = BranchesBy StraightFits

abbrev pub IsJustified : (Row → State → Kinds → ℕ) → Pins → ℕ → Kinds → List TrackLemma → TrackLemma → Type 0
IsJustified = IsJustifiedBy StraightFits

abbrev pub AreJustified : (Row → State → Kinds → ℕ) → Pins → ℕ → Kinds → List TrackLemma → Type 0
AreJustified = AreJustifiedBy StraightFits

abbrev pub IsTrueOf : Pins → ℕ → Kinds → TrackLemma → Type 0
IsTrueOf = IsTrueBy StraightFits

abbrev pub Certifies : (Row → State → Kinds → ℕ) → Pins → ℕ → Kinds → ℕ → List TrackLemma → Type 0
Certifies = CertifiesBy StraightFits
