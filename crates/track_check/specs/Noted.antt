-- Lemmas on tracks that are looked up by the number of their state.
use Rattle.std.specs.Prelude.{ℕ, List}
use Rattle.row_state.specs.declared.kind.Kinds.{Kinds}
use Rattle.row_state.specs.declared.numbered.Numbered.{Numbered}
use Rattle.row_state.specs.declared.state.State.{State}
use Rattle.track_ways.specs.declared.track.NetTrack.{NetTrack}
use Rattle.track_ways.specs.declared.lemma.TrackLemma.{TrackLemma}
use Rattle.track_ways.specs.Checked.{CoversListed}
use Rattle.row_cycles.specs.declared.places.Places.{Places}
use Rattle.row_cycles.specs.Noted.{AreNotedAtBy, AreNotedBy, IsPassedBy}

abbrev pub state_of : TrackLemma → State
state_of lemma = lemma.state

-- each lemma is noted where the number of its state is looked up
abbrev pub AreNoted : Kinds → List TrackLemma → Places → Type 0
AreNoted k lemmas places = AreNotedBy state_of k lemmas places

-- so are all lemmas on one state
abbrev pub AreNotedAt : List TrackLemma → Places → Numbered → Type 0
AreNotedAt lemmas places at = AreNotedAtBy state_of lemmas places at

-- the lemma at the place is not about the way
abbrev pub IsPassed : List TrackLemma → State → ℕ → List NetTrack → ℕ → Type 0
IsPassed lemmas s gaps way at = IsPassedBy (CoversListed s gaps way) lemmas at
