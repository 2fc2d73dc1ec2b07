-- When next columns leave a lemma justified.
use Rattle.std.proofs.Common.{ℕ, ◌≡◌, ◌↔◌, ◌==◌, Bool, List, [], ◌∷◌, length, inl, inr, refl, sym, subst, arith, All, Any, Contains, ◌∙◌}
use Rattle.std.specs.Prelude.{IsTrue}
use Rattle.std.proofs.lemmas.Bool.{eq-eqb, eqb-true}
use Rattle.std.proofs.lemmas.List.{nil_from_length}
use Rattle.std.proofs.lemmas.List.Elements.{All-contains, All-head, All-nil}
use Rattle.cell_num.specs.declared.finger.Row.{Row}
use Rattle.cell_num.specs.declared.net.Pins.{Pins}
use Rattle.cell_num.proofs.Lists.{all_from_contains, all_imply}
use Rattle.cell_num.proofs.Pairs.{Some', any_at, some_from_any}
use Rattle.row_state.specs.declared.kind.Kinds.{Kinds}
use Rattle.row_state.specs.declared.state.State.{State}
use Rattle.row_state.specs.declared.step.Step.{Step}
use Rattle.row_state.specs.Steps.{state_after}
use Rattle.track_ways.specs.declared.track.NetTrack.{NetTrack}
use Rattle.track_ways.specs.Ways.{LineWays, goes_ways_by}
use Rattle.track_ways.specs.declared.lemma.TrackLemma.{TrackLemma}
use Rattle.track_ways.specs.Certificate.{CoversAll, NeedsMore}
use Rattle.track_ways.specs.Checked.{CoversListed, IsRefutedListed}
use Rattle.track_check.specs.Steps.{WaysFailBy}

-- a state that needs more gaps is refuted whatever the tracks are
pub more_fail : (ways : LineWays) (value : Row → State → Kinds → ℕ) (pins : Pins) (limit : ℕ) (k : Kinds) (earlier : List TrackLemma) (lemma : TrackLemma) (step : Step) (left : ℕ) → NeedsMore value k (state_after k lemma.state step) left → WaysFailBy ways value pins limit k earlier lemma step left
more_fail ways value pins limit k earlier lemma step left more = all_from_contains (IsRefutedListed value k earlier (state_after k lemma.state step) left) (goes_ways_by ways pins limit k lemma.state lemma.tracks step) (λ way there. inl more)

-- a lemma without tracks speaks of all tracks
pub bare_covers : (s : State) (left : ℕ) (way : List NetTrack) (earlier : List TrackLemma) → Any (CoversListed s left []) earlier → Any (CoversListed s left way) earlier
bare_covers s left way earlier any =
    let found : Some' (CoversListed s left []) earlier = some_from_any (CoversListed s left []) earlier any in
    any_at (CoversListed s left way) earlier found.it found.there (record {
      state = found.holds.state;
      enough = found.holds.enough;
      tracks = all_imply (Contains []) (Contains way) found.it.tracks (λ t none. absurd (omega (arith, none.1))) found.holds.tracks;
    })

pub bare_fail : (ways : LineWays) (value : Row → State → Kinds → ℕ) (pins : Pins) (limit : ℕ) (k : Kinds) (earlier : List TrackLemma) (lemma : TrackLemma) (step : Step) (left : ℕ) (s : State) → s ≡ state_after k lemma.state step → Any (CoversListed s left []) earlier → WaysFailBy ways value pins limit k earlier lemma step left
bare_fail ways value pins limit k earlier lemma step left s after any = all_from_contains (IsRefutedListed value k earlier (state_after k lemma.state step) left) (goes_ways_by ways pins limit k lemma.state lemma.tracks step) (λ way there.
    inr (subst (λ z. Any (CoversListed z left way) earlier) after (bare_covers s left way earlier any)))

-- no tracks go through a crowded line
pub crowded_fail : (ways : LineWays) (value : Row → State → Kinds → ℕ) (pins : Pins) (limit : ℕ) (k : Kinds) (earlier : List TrackLemma) (lemma : TrackLemma) (step : Step) (left : ℕ) → goes_ways_by ways pins limit k lemma.state lemma.tracks step ≡ [] → WaysFailBy ways value pins limit k earlier lemma step left
crowded_fail ways value pins limit k earlier lemma step left none = subst (All (IsRefutedListed value k earlier (state_after k lemma.state step) left)) (sym none) (All-nil (IsRefutedListed value k earlier (state_after k lemma.state step) left))

refuted_known : (value : Row → State → Kinds → ℕ) (k : Kinds) (earlier : List TrackLemma) (s : State) (left : ℕ) (way : List NetTrack) → (NeedsMore value k s left → ⊥) → IsRefutedListed value k earlier s left way → Any (CoversListed s left way) earlier
refuted_known value k earlier s left way few (inl more) = absurd (few more)
refuted_known value k earlier s left way few (inr known) = known

no_tracks : (tracks : List NetTrack) → All (Contains []) tracks → tracks ≡ []
no_tracks [] all = refl
no_tracks (t ∷ ts) all = absurd (omega (arith, (All-head (Contains []) t ts all).1))

-- a lemma that speaks of the way without tracks speaks of any
pub bare_is_all : (s : State) (gaps : ℕ) (lemmas : List TrackLemma) → Any (CoversListed s gaps []) lemmas ↔ Any (CoversAll s gaps) lemmas
bare_is_all s gaps lemmas = (
  λ any.
      let found : Some' (CoversListed s gaps []) lemmas = some_from_any (CoversListed s gaps []) lemmas any in
      any_at (CoversAll s gaps) lemmas found.it found.there (record { state = found.holds.state; enough = found.holds.enough; any = no_tracks found.it.tracks found.holds.tracks }),
  λ any.
      let found : Some' (CoversAll s gaps) lemmas = some_from_any (CoversAll s gaps) lemmas any in
      any_at (CoversListed s gaps []) lemmas found.it found.there (record { state = found.holds.state; enough = found.holds.enough; tracks = subst (All (Contains [])) (sym found.holds.any) (All-nil (Contains [])) }),
)

-- else earlier lemmas must speak of it
pub known_fail : (ways : LineWays) (value : Row → State → Kinds → ℕ) (pins : Pins) (limit : ℕ) (k : Kinds) (earlier : List TrackLemma) (lemma : TrackLemma) (step : Step) (left : ℕ) (s : State) (known : Bool) → s ≡ state_after k lemma.state step → (NeedsMore value k s left → ⊥) → IsTrue known ↔ All (λ way. Any (CoversListed s left way) earlier) (goes_ways_by ways pins limit k lemma.state lemma.tracks step) → IsTrue known ↔ WaysFailBy ways value pins limit k earlier lemma step left
known_fail ways value pins limit k earlier lemma step left s known after few decides = (
  λ yes. all_from_contains (IsRefutedListed value k earlier (state_after k lemma.state step) left) (goes_ways_by ways pins limit k lemma.state lemma.tracks step) (λ way there.
      inr (subst (λ z. Any (CoversListed z left way) earlier) after (All-contains (λ way. Any (CoversListed s left way) earlier) (goes_ways_by ways pins limit k lemma.state lemma.tracks step) way (decides.0 yes) there))),
  λ fail. decides.1 (all_from_contains (λ way. Any (CoversListed s left way) earlier) (goes_ways_by ways pins limit k lemma.state lemma.tracks step) (λ way there.
      refuted_known value k earlier s left way few (subst (λ z. IsRefutedListed value k earlier z left way) (sym after) (All-contains (IsRefutedListed value k earlier (state_after k lemma.state step) left) (goes_ways_by ways pins limit k lemma.state lemma.tracks step) way fail there)))),
)

pub no_ways : {X : Type 0} (xs : List X) (n : ℕ) → n ≡ length xs → IsTrue (n == 0) ↔ (xs ≡ [])
no_ways xs n is = (
  λ e. nil_from_length xs (sym is ∙ eqb-true n 0 e),
  λ none. eq-eqb n 0 (is ∙ subst (λ ys. length ys ≡ 0) (sym none) refl),
)
