-- What a look-up at a place says of a way.
use Rattle.std.specs.Prelude.{ℕ, ◌≡◌, List, Some, Any, slice_get}
use Rattle.row_state.specs.declared.state.State.{State}
use Rattle.track_ways.specs.declared.track.NetTrack.{NetTrack}
use Rattle.track_ways.specs.declared.lemma.TrackLemma.{TrackLemma}
use Rattle.track_ways.specs.Checked.{CoversListed}
use Rattle.row_cycles.proofs.Noted.{covered_at, passed_at}
use Rattle.track_check.specs.Noted.{IsPassed}

pub covered_there : (s : State) (gaps : ℕ) (way : List NetTrack) (lemmas : List TrackLemma) (at : ℕ) (lemma : TrackLemma) → slice_get lemmas at ≡ Some lemma → CoversListed s gaps way lemma → Any (CoversListed s gaps way) lemmas
covered_there s gaps way lemmas at lemma is covers = covered_at (CoversListed s gaps way) lemmas at lemma is covers

pub passed_there : (s : State) (gaps : ℕ) (way : List NetTrack) (lemmas : List TrackLemma) (at : ℕ) (lemma : TrackLemma) → slice_get lemmas at ≡ Some lemma → (CoversListed s gaps way lemma → ⊥) → IsPassed lemmas s gaps way at
passed_there s gaps way lemmas at lemma is none = passed_at (CoversListed s gaps way) lemmas at lemma is none
