-- What loops over lists show.
use Rattle.std.proofs.Common.{ℕ, ◌≡◌, ◌+◌, ◌<◌, ◌≤◌, ◌++◌, List, [], ◌∷◌, length, get_or, take, take_all, inl, inr, sym, ap, subst, All, Any, Contains, ◌∙◌, append_assoc, append-nil}
use Rattle.std.proofs.lemmas.List.{nil_from_length}
use Rattle.std.proofs.lemmas.List.Elements.{All-nil, All-append, All-contains, All-contains_itself, All-more, All-push, All-weaker, Contains-append_right}
use Rattle.cell_num.specs.declared.net.Pins.{Pins}
use Rattle.cell_num.proofs.Lists.{all_from_contains, all_imply, all_one, contains_here}
use Rattle.cell_num.proofs.Pairs.{any_append_left, any_at, pairs_append, pairs_none, pairs_one}
use Rattle.row_state.specs.declared.kind.Kinds.{Kinds}
use Rattle.row_state.specs.declared.step.Step.{Step}
use Rattle.row_state.specs.declared.state.State.{State}
use Rattle.track_ways.specs.Ways.{LineWays, goes_ways_by}
use Rattle.track_ways.specs.declared.track.NetTrack.{NetTrack}
use Rattle.track_ways.specs.declared.lemma.TrackLemma.{TrackLemma}
use Rattle.track_ways.specs.Checked.{CoversListed}
use Rattle.track_search.specs.Visit.{AreAdded, AreFresh, AreTaken, GoOn, HasPart, IsTaken}

-- nothing holds of the items of an empty list
pub all_of_none : {X : Type 0} (P : X → Type 0) (xs : List X) (n : ℕ) → n ≡ length xs → n ≡ 0 → All P xs
all_of_none P xs n is none = subst (All P) (sym (nil_from_length xs (sym is ∙ none))) (All-nil P)

taken_grown : (lemmas : List TrackLemma) (s : State) (left : ℕ) (xs ys : List (List NetTrack)) (more : List (List NetTrack)) → ys ≡ xs ++ more → (way : List NetTrack) → IsTaken lemmas s left xs way → IsTaken lemmas s left ys way
taken_grown lemmas s left xs ys more is way (inl known) = inl known
taken_grown lemmas s left xs ys more is way (inr any) = inr (subst (Any (HasPart way)) (sym is) (any_append_left (HasPart way) xs more any))

pub all_taken_grown : (lemmas : List TrackLemma) (s : State) (left : ℕ) (xs ys more ways : List (List NetTrack)) → ys ≡ xs ++ more → All (IsTaken lemmas s left xs) ways → All (IsTaken lemmas s left ys) ways
all_taken_grown lemmas s left xs ys more ways is all = All-weaker (IsTaken lemmas s left xs) (IsTaken lemmas s left ys) (taken_grown lemmas s left xs ys more is) ways all

pub added_none : (lemmas : List TrackLemma) (s : State) (left : ℕ) (found ways : List (List NetTrack)) → AreAdded lemmas s left found [] ways ways
added_none lemmas s left found ways = record { more = []; is = sym (append-nil ways); from = All-nil (Contains found); taken = All-nil (IsTaken lemmas s left ways) }

-- one more found way that is taken already
pub added_taken : (lemmas : List TrackLemma) (s : State) (left : ℕ) (found before after : List (List NetTrack)) (i : ℕ) (x : List NetTrack) → x ≡ get_or found i x → i < length found → AreAdded lemmas s left found (take i found) before after → IsTaken lemmas s left after x → AreAdded lemmas s left found (take (i + 1) found) before after
added_taken lemmas s left found before after i x is within h taken =
    record { more = h.more; is = h.is; from = h.from; taken = All-more (IsTaken lemmas s left after) found i x within h.taken (subst (IsTaken lemmas s left after) is taken) }

-- one more that is added
pub added_push : (lemmas : List TrackLemma) (s : State) (left : ℕ) (found before after pushed : List (List NetTrack)) (i : ℕ) (x : List NetTrack) → x ≡ get_or found i x → i < length found → AreAdded lemmas s left found (take i found) before after → pushed ≡ after ++ x ∷ [] → AreAdded lemmas s left found (take (i + 1) found) before pushed
added_push lemmas s left found before after pushed i x is within h e =
    let there : Contains pushed x = subst (λ zs. Contains zs x) (sym e) (Contains-append_right after (x ∷ []) x (contains_here x [])) in
    record {
      more = h.more ++ x ∷ [];
      is = e ∙ ap (λ zs. zs ++ x ∷ []) h.is ∙ append_assoc before h.more (x ∷ []);
      from = All-push (Contains found) h.more x h.from (i, within, sym is);
      taken = All-more (IsTaken lemmas s left pushed) found i x within (all_taken_grown lemmas s left after pushed (x ∷ []) (take i found) e h.taken) (subst (IsTaken lemmas s left pushed) is (inr (any_at (HasPart x) pushed x there (All-contains_itself x))));
    }

pub added_all : (lemmas : List TrackLemma) (s : State) (left : ℕ) (found before after : List (List NetTrack)) (i : ℕ) → length found ≤ i → AreAdded lemmas s left found (take i found) before after → AreAdded lemmas s left found found before after
added_all lemmas s left found before after i past h = subst (λ done. AreAdded lemmas s left found done before after) (take_all i found past) h

-- one more way before the column, with all its ways after it
pub onward_more : (listing : LineWays) (pins : Pins) (limit : ℕ) (k : Kinds) (lemmas : List TrackLemma) (s : State) (step : Step) (after : State) (left : ℕ) (ways items before new found : List (List NetTrack)) (i : ℕ) (x : List NetTrack) → items ≡ ways → x ≡ get_or items i x → i < length items → found ≡ goes_ways_by listing pins limit k s x step → All (AreTaken listing pins limit k lemmas s step after left before) (take i items) × All (GoOn listing pins limit k s step ways) before → AreAdded lemmas after left found found before new → All (AreTaken listing pins limit k lemmas s step after left new) (take (i + 1) items) × All (GoOn listing pins limit k s step ways) new
onward_more listing pins limit k lemmas s step after left ways items before new found i x same is within are h a = (
  All-more (AreTaken listing pins limit k lemmas s step after left new) items i x within
      (all_imply (AreTaken listing pins limit k lemmas s step after left before) (AreTaken listing pins limit k lemmas s step after left new) (take i items) (λ w all. all_taken_grown lemmas after left before new a.more (goes_ways_by listing pins limit k s w step) a.is all) h.0)
      (subst (AreTaken listing pins limit k lemmas s step after left new) is (subst (All (IsTaken lemmas after left new)) are a.taken)),
  subst (All (GoOn listing pins limit k s step ways)) (sym a.is) (All-append (GoOn listing pins limit k s step ways) before a.more h.1
      (all_from_contains (GoOn listing pins limit k s step ways) a.more (λ next there.
      any_at (λ way. Contains (goes_ways_by listing pins limit k s way step) next) ways x (subst (λ zs. Contains zs x) same (i, within, sym is)) (subst (λ fs. Contains fs next) are (All-contains (Contains found) a.more next a.from there))))),
)

-- one more way of which no lemma speaks, and that has all tracks of no other
pub fresh_push : (lemmas : List TrackLemma) (s : State) (left : ℕ) (ways pushed : List (List NetTrack)) (x : List NetTrack) → AreFresh lemmas s left ways → pushed ≡ ways ++ x ∷ [] → (Any (CoversListed s left x) lemmas → ⊥) → All (λ other. HasPart x other → ⊥) ways → AreFresh lemmas s left pushed
fresh_push lemmas s left ways pushed x h is none apart = subst (AreFresh lemmas s left) (sym is) (record {
  open' = All-push (λ way. Any (CoversListed s left way) lemmas → ⊥) ways x h.open' none;
  apart = pairs_append (λ a b. HasPart b a → ⊥) ways (x ∷ []) h.apart (pairs_one (λ a b. HasPart b a → ⊥) x)
      (all_imply (λ other. HasPart x other → ⊥) (λ a. All (λ b. HasPart b a → ⊥) (x ∷ [])) ways (λ a not'. all_one (λ b. HasPart b a → ⊥) x not') apart);
})

pub fresh_none : (lemmas : List TrackLemma) (s : State) (left : ℕ) (ways : List (List NetTrack)) → ways ≡ [] → AreFresh lemmas s left ways
fresh_none lemmas s left ways none = subst (AreFresh lemmas s left) (sym none) (record { open' = All-nil (λ way. Any (CoversListed s left way) lemmas → ⊥); apart = pairs_none (λ a b. HasPart b a → ⊥) })

-- before the first way
pub onward_none : (listing : LineWays) (pins : Pins) (limit : ℕ) (k : Kinds) (lemmas : List TrackLemma) (s : State) (step : Step) (after : State) (left : ℕ) (ways items onward : List (List NetTrack)) → onward ≡ [] → All (AreTaken listing pins limit k lemmas s step after left onward) (take 0 items) × All (GoOn listing pins limit k s step ways) onward
onward_none listing pins limit k lemmas s step after left ways items onward none = (All-nil (AreTaken listing pins limit k lemmas s step after left onward), subst (All (GoOn listing pins limit k s step ways)) (sym none) (All-nil (GoOn listing pins limit k s step ways)))
