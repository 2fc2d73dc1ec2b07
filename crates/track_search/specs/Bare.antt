-- What is known of states by their numbers, whatever the tracks of their open nets are.
use Rattle.std.specs.Prelude.{ℕ, ◌≡◌, ◌≤◌, ◌⊎◌, ◌↔◌, List, [], Option, Some, None, Any, nat_eq, unwrap_or}
use Rattle.std.specs.HashMap.{get}
use Rattle.cell_num.specs.declared.finger.Row.{Row}
use Rattle.cell_num.specs.declared.net.Pins.{Pins}
use Rattle.row_state.specs.declared.kind.Kinds.{Kinds}
use Rattle.row_state.specs.declared.state.State.{State}
use Rattle.row_state.specs.Code.{state_code}
use Rattle.row_state.specs.Start.{IsState}
use Rattle.track_ways.specs.declared.lemma.TrackLemma.{TrackLemma}
use Rattle.track_ways.specs.Certificate.{CoversAll, NeedsMore}
use Rattle.track_check.specs.Noted.{AreNoted}
use Rattle.track_search.specs.declared.known.Known.{Known}
use Rattle.track_search.specs.declared.by_state.ByState.{ByState}
use Rattle.track_search.specs.declared.progress.Progress.{Progress}
use Rattle.track_search.specs.Uncrowded.{HasUncrowded}

abbrev pub nothing_known : Known
nothing_known = record { too_few = None; closed = None; free = None }

abbrev pub known_at : ByState → ℕ → Known
known_at known number = unwrap_or (get nat_eq known.known number) nothing_known

-- a number of gaps is noted, and these are no more
abbrev pub IsUpTo : Option ℕ → ℕ → Type 0
IsUpTo None gaps = ⊥
IsUpTo (Some most) gaps = gaps ≤ most

-- a number is noted, and these are no fewer
abbrev pub IsFrom : Option ℕ → ℕ → Type 0
IsFrom None gaps = ⊥
IsFrom (Some fewest) gaps = fewest ≤ gaps

-- a lemma without tracks, and of as many gaps or more
pub record IsBare (lemma : TrackLemma) (gaps : ℕ) : Type 0 where
  pub enough : gaps ≤ lemma.gaps
  pub any : lemma.tracks ≡ []

-- the state needs more gaps by the bounds, or a lemma without tracks is about it and as many
abbrev pub IsShut : (Row → State → Kinds → ℕ) → Kinds → List TrackLemma → State → ℕ → Type 0
IsShut value k lemmas s gaps = NeedsMore value k s gaps ⊎ Any (CoversAll s gaps) lemmas

-- each valid state needs more gaps by the bounds of its rows than are noted as too few
abbrev pub AreTooFew : (Row → State → Kinds → ℕ) → Kinds → ByState → Type 0
AreTooFew value k known = (s : State) (gaps : ℕ) → IsState k s
    → IsUpTo (known_at known (state_code k s)).too_few gaps → NeedsMore value k s gaps

-- the most gaps are noted that lemmas without tracks have on each valid state
abbrev pub AreMost : Kinds → List TrackLemma → ByState → Type 0
AreMost k lemmas known = (s : State) (gaps : ℕ) → IsState k s
    → IsUpTo (known_at known (state_code k s)).closed gaps ↔ Any (CoversAll s gaps) lemmas

-- each valid state has a completion without a crowded line with as many gaps as are noted so
abbrev pub AreFree : Pins → ℕ → Kinds → ByState → Type 0
AreFree pins limit k known = (s : State) (gaps : ℕ) → IsState k s
    → IsFrom (known_at known (state_code k s)).free gaps → HasUncrowded pins limit k s gaps

-- the lemmas are found by the number of their state, and what is known of states is so
pub record IsNoted
    (value : Row → State → Kinds → ℕ) (pins : Pins) (limit : ℕ) (k : Kinds) (progress : Progress) : Type 0 where
  pub places : AreNoted k progress.lemmas progress.places
  pub too_few : AreTooFew value k progress.known
  pub bare : AreMost k progress.lemmas progress.known
  pub free : AreFree pins limit k progress.known
