-- Why a certificate is refused.
use Rattle.std.specs.Prelude.{ℕ, ◌<◌, List, Any, length, take, slice_index_or}
use Rattle.cell_num.specs.declared.finger.Row.{Row}
use Rattle.cell_num.specs.declared.net.Pins.{Pins}
use Rattle.row_state.specs.declared.kind.Kinds.{Kinds}
use Rattle.row_state.specs.declared.state.State.{State}
use Rattle.row_state.specs.Start.{start_of}
use Rattle.track_ways.specs.declared.lemma.TrackLemma.{TrackLemma}
use Rattle.track_ways.specs.Certificate.{AreJustifiedBy, CoversAll, IsJustifiedBy}
use Rattle.track_ways.specs.Lines.{LineRule, StraightFits}
use Rattle.track_check.specs.declared.refused.TracksRefused.{TracksRefused}
use Rattle.track_check.specs.declared.refused.TracksRefused.TheVariants as because

-- the lemmas before the place n are justified by a rule
abbrev pub AreJustifiedBelow : LineRule → (Row → State → Kinds → ℕ) → Pins → ℕ → Kinds → List TrackLemma → ℕ → Type 0
AreJustifiedBelow rule value pins limit k lemmas n =
    (i : ℕ) (d : TrackLemma) → i < n → IsJustifiedBy rule value pins limit k (take i lemmas) (slice_index_or lemmas i d)

-- all lemmas before this one are justified, and it is not
pub record IsFirstUnjustifiedBy
    (rule : LineRule) (value : Row → State → Kinds → ℕ) (pins : Pins) (limit : ℕ) (k : Kinds)
    (lemmas : List TrackLemma) (at : ℕ) : Type 0 where
  pub within : at < length lemmas
  pub before : AreJustifiedBelow rule value pins limit k lemmas at
  pub unjustified : (d : TrackLemma)
      → IsJustifiedBy rule value pins limit k (take at lemmas) (slice_index_or lemmas at d) → ⊥

-- all lemmas are justified, and none is about the start state, that many gaps and any tracks
pub record HasNoStart
    (rule : LineRule) (value : Row → State → Kinds → ℕ) (pins : Pins) (limit : ℕ) (k : Kinds) (gaps : ℕ)
    (lemmas : List TrackLemma) : Type 0 where
  pub justified : AreJustifiedBy rule value pins limit k lemmas
  pub whole : Any (CoversAll (start_of k) gaps) lemmas → ⊥

abbrev pub RefusesBy :
    LineRule → (Row → State → Kinds → ℕ) → Pins → ℕ → Kinds → ℕ → List TrackLemma → TracksRefused → Type 0
RefusesBy rule value pins limit k gaps lemmas (because.Unjustified at) =
    IsFirstUnjustifiedBy rule value pins limit k lemmas at
RefusesBy rule value pins limit k gaps lemmas because.NoStart = HasNoStart rule value pins limit k gaps lemmas
RefusesBy rule value pins limit k gaps lemmas because.NoMemory = Unit {0}

-- the same where nets go straight
abbrev pub IsFirstUnjustified : (Row → State → Kinds → ℕ) → Pins → ℕ → Kinds → List TrackLemma → ℕ → Type 0
IsFirstUnjustified = IsFirstUnjustifiedBy StraightFits

abbrev pub Refuses : (Row → State → Kinds → ℕ) → Pins → ℕ → Kinds → ℕ → List TrackLemma → TracksRefused → Type 0
Refuses = RefusesBy StraightFits
