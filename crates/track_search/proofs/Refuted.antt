-- What lemmas say of ways stays said when there are more of them, and is true.
use Rattle.std.proofs.Common.{ℕ, true, ◌≡◌, ◌++◌, List, [], ◌∷◌, map, inl, inr, refl, sym, subst, All, Any, Contains, append_assoc, append-nil}
use Rattle.std.proofs.lemmas.List.Elements.{All-contains, All-head, All-tail, All-weaker}
use Rattle.cell_num.specs.declared.finger.Row.{Row}
use Rattle.cell_num.specs.declared.net.NetNo.{NetNo}
use Rattle.cell_num.specs.declared.net.Pins.{Pins}
use Rattle.cell_num.proofs.Lists.{all_from_contains, all_imply, all_one, contains_none}
use Rattle.cell_num.proofs.Pairs.{Some', any_append_left, any_at, any_from_some, pairs_one, some_from_any}
use Rattle.row_state.specs.declared.kind.Kinds.{Kinds}
use Rattle.row_state.specs.declared.state.State.{State}
use Rattle.row_state.specs.declared.step.Step.{Step}
use Rattle.row_state.specs.Start.{AreSomeKinds}
use Rattle.row_state.specs.Steps.{state_after}
use Rattle.track_ways.specs.declared.track.NetTrack.{NetTrack}
use Rattle.track_ways.specs.Lines.{LineRule}
use Rattle.track_ways.specs.Tracks.{AreTracksOf}
use Rattle.track_ways.specs.States.{is_open_at}
use Rattle.track_ways.specs.Rules.{IsRule}
use Rattle.track_ways.specs.Ways.{LineWays, goes_ways_by}
use Rattle.track_ways.specs.declared.lemma.TrackLemma.{TrackLemma}
use Rattle.track_ways.specs.Certificate.{AreJustifiedBy, Covers, CoversAll, IsJustifiedBy, IsRefuted, IsValid}
use Rattle.track_ways.specs.Checked.{CoversListed, IsJustifiedListedBy, IsRefutedListed}
use Rattle.track_ways.proofs.Checked.{justified_decided_by}
use Rattle.row_cycles.proofs.Certified.{each_push}
use Rattle.track_search.specs.InOrder.{in_order}
use Rattle.track_check.specs.Steps.{StepFailsListedBy}
use Rattle.track_search.specs.Visit.{AreCovered, AreFresh, HasPart, kept_at, lemma_at}
use Rattle.track_search.proofs.Kept.{AreSame}

refuted_more : (value : Row → State → Kinds → ℕ) (k : Kinds) (xs ys more : List TrackLemma) (s : State) (gaps : ℕ) → ys ≡ xs ++ more → (way : List NetTrack) → IsRefutedListed value k xs s gaps way → IsRefutedListed value k ys s gaps way
refuted_more value k xs ys more s gaps is way (inl d) = inl d
refuted_more value k xs ys more s gaps is way (inr any) = inr (subst (Any (CoversListed s gaps way)) (sym is) (any_append_left (CoversListed s gaps way) xs more any))

all_refuted_more : (value : Row → State → Kinds → ℕ) (k : Kinds) (xs ys more : List TrackLemma) (s : State) (gaps : ℕ) (ways : List (List NetTrack)) → ys ≡ xs ++ more → All (IsRefutedListed value k xs s gaps) ways → All (IsRefutedListed value k ys s gaps) ways
all_refuted_more value k xs ys more s gaps ways is all = All-weaker (IsRefutedListed value k xs s gaps) (IsRefutedListed value k ys s gaps) (refuted_more value k xs ys more s gaps is) ways all

pub step_fails_more : (listing : LineWays) (value : Row → State → Kinds → ℕ) (pins : Pins) (limit : ℕ) (k : Kinds) (xs ys more : List TrackLemma) (lemma : TrackLemma) (step : Step) → ys ≡ xs ++ more → StepFailsListedBy listing value pins limit k xs lemma step → StepFailsListedBy listing value pins limit k ys lemma step
step_fails_more listing value pins limit k xs ys more lemma step is h left possible sum =
    all_refuted_more value k xs ys more (state_after k lemma.state step) left (goes_ways_by listing pins limit k lemma.state lemma.tracks step) is (h left possible sum)

justified_more : (listing : LineWays) (value : Row → State → Kinds → ℕ) (pins : Pins) (limit : ℕ) (k : Kinds) (xs ys more : List TrackLemma) (lemma : TrackLemma) → ys ≡ xs ++ more → IsJustifiedListedBy listing value pins limit k xs lemma → IsJustifiedListedBy listing value pins limit k ys lemma
justified_more listing value pins limit k xs ys more lemma is h = record {
  valid = h.valid;
  holds = elim h.holds [
    | inl d ↦ inl d
    | inr b ↦ inr (record {
      steps = λ step left possible sum. all_refuted_more value k xs ys more (state_after k lemma.state step) left (goes_ways_by listing pins limit k lemma.state lemma.tracks step) is (b.steps step left possible sum);
      ends = b.ends;
    })
  ];
}

all_valid : (rule : LineRule) (value : Row → State → Kinds → ℕ) (pins : Pins) (limit : ℕ) (k : Kinds) (xs : List TrackLemma) → AreJustifiedBy rule value pins limit k xs → All (IsValid pins k) xs
all_valid rule value pins limit k xs all i d within = (all i d within).valid

have_tracks : (xs ys : List NetTrack) (track : NetNo → ℕ) → All (Contains xs) ys → AreTracksOf xs track → AreTracksOf ys track
have_tracks xs ys track there lie = all_imply (Contains xs) (λ (t : NetTrack). track t.net ≡ t.track) ys (λ t at. All-contains (λ (t : NetTrack). track t.net ≡ t.track) xs t lie at) there

-- the same tracks in another order leave a lemma justified
justified_same : (rule : LineRule) (value : Row → State → Kinds → ℕ) (pins : Pins) (limit : ℕ) (k : Kinds) (earlier : List TrackLemma) (s : State) (gaps : ℕ) (way other : List NetTrack) → AreSame way other → IsJustifiedBy rule value pins limit k earlier (lemma_at s gaps way) → IsJustifiedBy rule value pins limit k earlier (lemma_at s gaps other)
justified_same rule value pins limit k earlier s gaps way other same h = record {
  valid = record {
    state = h.valid.state;
    ends = h.valid.ends;
    open' = all_imply (Contains way) (λ (t : NetTrack). is_open_at pins k s t.net ≡ true) other (λ t at. All-contains (λ (t : NetTrack). is_open_at pins k s t.net ≡ true) way t h.valid.open' at) same.to;
    one = λ t u at also e. h.valid.one t u (All-contains (Contains way) other t same.to at) (All-contains (Contains way) other u same.to also) e;
  };
  holds = elim h.holds [
    | inl d ↦ inl d
    | inr b ↦ inr (record {
      steps = λ step possible track next left lie goes sum. b.steps step possible track next left (have_tracks other way track same.from lie) goes sum;
      ends = λ none track lie last. b.ends none track (have_tracks other way track same.from lie) last;
    })
  ];
}

-- a lemma more for each of some ways
pub kept_all : {rule : LineRule} {listing : LineWays} (r : IsRule rule listing) (value : Row → State → Kinds → ℕ) (pins : Pins) (limit : ℕ) (k : Kinds) (some : AreSomeKinds k) (s : State) (gaps : ℕ) (ways : List (List NetTrack)) (xs : List TrackLemma) → AreJustifiedBy rule value pins limit k xs → All (λ way. AreSame way (in_order k.nets way)) ways → All (λ way. IsJustifiedListedBy listing value pins limit k xs (lemma_at s gaps way)) ways → AreJustifiedBy rule value pins limit k (xs ++ map (kept_at k.nets s gaps) ways)
kept_all {rule} {listing} r value pins limit k some s gaps [] xs all same each = subst (AreJustifiedBy rule value pins limit k) (sym (append-nil xs)) all
kept_all {rule} {listing} r value pins limit k some s gaps (way ∷ ways) xs all same each =
    let here : IsJustifiedListedBy listing value pins limit k xs (lemma_at s gaps way) = All-head (λ way. IsJustifiedListedBy listing value pins limit k xs (lemma_at s gaps way)) way ways each in
    let rest : All (λ way. IsJustifiedListedBy listing value pins limit k xs (lemma_at s gaps way)) ways = All-tail (λ way. IsJustifiedListedBy listing value pins limit k xs (lemma_at s gaps way)) way ways each in
    let alike : AreSame way (in_order k.nets way) = All-head (λ way. AreSame way (in_order k.nets way)) way ways same in
    let own : IsJustifiedBy rule value pins limit k xs (kept_at k.nets s gaps way) = justified_same rule value pins limit k xs s gaps way (in_order k.nets way) alike ((justified_decided_by r value pins limit k xs (lemma_at s gaps way) some (all_valid rule value pins limit k xs all)).1 here) in
    let one : AreJustifiedBy rule value pins limit k (xs ++ kept_at k.nets s gaps way ∷ []) = each_push (IsJustifiedBy rule value pins limit k) xs (kept_at k.nets s gaps way) all own in
    subst (AreJustifiedBy rule value pins limit k) (append_assoc xs (kept_at k.nets s gaps way ∷ []) (map (kept_at k.nets s gaps) ways))
    (kept_all r value pins limit k some s gaps ways (xs ++ kept_at k.nets s gaps way ∷ []) one (All-tail (λ way. AreSame way (in_order k.nets way)) way ways same)
    (All-weaker (λ way. IsJustifiedListedBy listing value pins limit k xs (lemma_at s gaps way)) (λ w. IsJustifiedListedBy listing value pins limit k (xs ++ kept_at k.nets s gaps way ∷ []) (lemma_at s gaps w)) (λ w h. justified_more listing value pins limit k xs (xs ++ kept_at k.nets s gaps way ∷ []) (kept_at k.nets s gaps way ∷ []) (lemma_at s gaps w) refl h) ways rest))

-- ---- lemmas without tracks

no_tracks_left : (tracks : List NetTrack) → All (Contains []) tracks → tracks ≡ []
no_tracks_left [] h = refl
no_tracks_left (t ∷ ts) h = absurd (contains_none t (All-head (Contains []) t ts h))

-- a lemma that speaks of no tracks has none
pub covers_all : (lemmas : List TrackLemma) (s : State) (gaps : ℕ) → Any (CoversListed s gaps []) lemmas → Any (CoversAll s gaps) lemmas
covers_all lemmas s gaps any =
    let found : Some' (CoversListed s gaps []) lemmas = some_from_any (CoversListed s gaps []) lemmas any in
    any_at (CoversAll s gaps) lemmas found.it found.there (record { state = found.holds.state; enough = found.holds.enough; any = no_tracks_left found.it.tracks found.holds.tracks })

pub one_covered : (lemmas : List TrackLemma) (s : State) (gaps : ℕ) → AreCovered lemmas s gaps ([] ∷ []) → Any (CoversAll s gaps) lemmas
one_covered lemmas s gaps all = covers_all lemmas s gaps (All-head (λ way. Any (CoversListed s gaps way) lemmas) [] [] all)

pub none_fresh : (lemmas : List TrackLemma) (s : State) (gaps : ℕ) → (Any (CoversAll s gaps) lemmas → ⊥) → AreFresh lemmas s gaps ([] ∷ [])
none_fresh lemmas s gaps not' = record {
  open' = all_one (λ way. Any (CoversListed s gaps way) lemmas → ⊥) [] (λ any. not' (covers_all lemmas s gaps any));
  apart = pairs_one (λ a b. HasPart b a → ⊥) [];
}

-- the tracks of a way that a lemma speaks of
pub refuted_listed : (value : Row → State → Kinds → ℕ) (k : Kinds) (lemmas : List TrackLemma) (s : State) (gaps : ℕ) (way : List NetTrack) (next : NetNo → ℕ) → AreTracksOf way next → IsRefutedListed value k lemmas s gaps way → IsRefuted value k lemmas s gaps next
refuted_listed value k lemmas s gaps way next have (inl d) = inl d
refuted_listed value k lemmas s gaps way next have (inr any) =
    let found : Some' (CoversListed s gaps way) lemmas = some_from_any (CoversListed s gaps way) lemmas any in
    inr (any_from_some (Covers s gaps next) lemmas (record {
      it = found.it;
      there = found.there;
      holds = record {
        state = found.holds.state;
        enough = found.holds.enough;
        tracks = all_from_contains (λ (t : NetTrack). next t.net ≡ t.track) found.it.tracks (λ t there. All-contains (λ (t : NetTrack). next t.net ≡ t.track) way t have (All-contains (Contains way) found.it.tracks t found.holds.tracks there));
      };
    }))
