-- The lemmas that a search keeps, and why its budget is spent.
use Rattle.std.specs.Prelude.{ℕ, ◌≡◌, ◌+◌, ◌<◌, ◌≤◌, List, [], ◌∷◌, All, IsTrue, length, slice_index_or, sum_by}
use Rattle.std.specs.List.{AllPairs}
use Rattle.cell_num.specs.declared.finger.Row.{Row}
use Rattle.cell_num.specs.declared.net.Pins.{Pins}
use Rattle.row_state.specs.declared.kind.Kinds.{Kinds}
use Rattle.row_state.specs.declared.state.State.{State}
use Rattle.row_state.specs.Start.{IsState}
use Rattle.trail_log.specs.Order.{increases}
use Rattle.track_log.specs.Line.{track_rank}
use Rattle.track_ways.specs.declared.track.NetTrack.{NetTrack}
use Rattle.track_ways.specs.declared.lemma.TrackLemma.{TrackLemma}
use Rattle.track_ways.specs.Lines.{LineRule, StraightFits}
use Rattle.track_ways.specs.Certificate.{AreJustifiedBy}
use Rattle.track_ways.specs.Checked.{CoversListed}

-- a net of the kinds, on a track below the limit
pub record IsTrackBelow (nets limit : ℕ) (t : NetTrack) : Type 0 where
  pub net : t.net.0 < nets
  pub track : t.track < limit

-- a valid state, at most that many gaps, and tracks below the limit in the order of their nets, no net twice
pub record IsWithin (k : Kinds) (limit most : ℕ) (lemma : TrackLemma) : Type 0 where
  pub state : IsState k lemma.state
  pub gaps : lemma.gaps ≤ most
  pub tracks : All (IsTrackBelow k.nets limit) lemma.tracks
  pub order : IsTrue (increases track_rank lemma.tracks)

-- no lemma follows from an earlier one: that is on another state, on fewer gaps, or on a track that it does not list
abbrev pub AreNew : List TrackLemma → Type 0
AreNew lemmas = AllPairs (λ earlier lemma. CoversListed lemma.state lemma.gaps lemma.tracks earlier → ⊥) lemmas

-- lemmas that, by a rule, no row with at most that many gaps has tracks below the limit: each is justified, and none
-- follows from an earlier one
pub record AreKeptBy
    (rule : LineRule) (value : Row → State → Kinds → ℕ) (pins : Pins) (limit : ℕ) (k : Kinds) (gaps : ℕ)
    (lemmas : List TrackLemma) : Type 0 where
  pub justified : AreJustifiedBy rule value pins limit k lemmas
  pub own : AreNew lemmas
  pub within : All (IsWithin k limit gaps) lemmas

-- Why the search below one limit is spent: it keeps more lemmas than the budget allows.
pub record IsSpentBelowBy
    (rule : LineRule) (value : Row → State → Kinds → ℕ) (pins : Pins) (limit : ℕ) (k : Kinds) (gaps budget : ℕ)
    : Type 0 where
  pub lemmas : List TrackLemma
  pub kept : AreKeptBy rule value pins limit k gaps lemmas
  pub more : budget < length lemmas

-- lists of lemmas on the limits from 0 on, the last one first
abbrev pub AreKeptBelowBy :
    LineRule → (Row → State → Kinds → ℕ) → Pins → Kinds → ℕ → List (List TrackLemma) → Type 0
AreKeptBelowBy rule value pins k gaps [] = Unit {0}
AreKeptBelowBy rule value pins k gaps (lemmas ∷ lower) =
    AreKeptBy rule value pins (length lower) k gaps lemmas × AreKeptBelowBy rule value pins k gaps lower

-- These lemmas are kept on the last of the limits below the tracks, none where there is no limit. All that are kept on
-- these limits are no more than the budget.
pub record IsKeptWithinBy
    (rule : LineRule) (value : Row → State → Kinds → ℕ) (pins : Pins) (k : Kinds) (gaps tracks budget : ℕ)
    (lemmas : List TrackLemma) : Type 0 where
  pub lists : List (List TrackLemma)
  pub limits : length lists ≡ tracks
  pub kept : AreKeptBelowBy rule value pins k gaps lists
  pub few : sum_by length lists ≤ budget
  pub last : slice_index_or lists 0 [] ≡ lemmas

-- Why the budget is spent below the limits from 0 to the one that was tried: all that are kept on these limits are more
-- lemmas than it allows.
pub record IsSpentBy
    (rule : LineRule) (value : Row → State → Kinds → ℕ) (pins : Pins) (k : Kinds) (gaps tried budget : ℕ)
    : Type 0 where
  pub lists : List (List TrackLemma)
  pub limits : length lists ≡ tried + 1
  pub kept : AreKeptBelowBy rule value pins k gaps lists
  pub more : budget < sum_by length lists

-- the same where nets go straight
abbrev pub AreKept : (Row → State → Kinds → ℕ) → Pins → ℕ → Kinds → ℕ → List TrackLemma → Type 0
AreKept = AreKeptBy StraightFits

abbrev pub IsSpentBelow : (Row → State → Kinds → ℕ) → Pins → ℕ → Kinds → ℕ → ℕ → Type 0
IsSpentBelow = IsSpentBelowBy StraightFits

abbrev pub IsKeptWithin : (Row → State → Kinds → ℕ) → Pins → Kinds → ℕ → ℕ → ℕ → List TrackLemma → Type 0
IsKeptWithin = IsKeptWithinBy StraightFits

abbrev pub IsSpent : (Row → State → Kinds → ℕ) → Pins → Kinds → ℕ → ℕ → ℕ → Type 0
IsSpent = IsSpentBy StraightFits
