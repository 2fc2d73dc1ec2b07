-- What is found by the numbers of states is what a walk through all lemmas finds.
use Rattle.std.specs.Prelude.{ℕ, ◌≡◌, ◌≢◌, ◌+◌, ◌<◌, ◌++◌, List, [], ◌∷◌, Some, ◌⊎◌, All, Any, Contains, length, slice_get, take}
use Rattle.std.proofs.Common.{get_or, sym, ap, subst, arith, ◌∙◌, inl, inr, add-one}
use Rattle.std.proofs.Math.Seq.{take-suc}
use Rattle.std.proofs.lemmas.Bool.{cases_eq, cases_lt}
use Rattle.std.proofs.lemmas.List.{get_or_append_left, get_or_push, length-append, length-take-le}
use Rattle.std.proofs.lemmas.List.Elements.{All-contains, Contains-append_left, Contains-push}
use Rattle.std.proofs.lemmas.Option.{get_or_from_slice_get, slice_get-get_or, slice_get_within}
use Rattle.cell_num.proofs.Lists.{contains_get, some_same}
use Rattle.cell_num.proofs.Pairs.{Some', any_at, some_from_any}
use Rattle.row_state.specs.declared.kind.Kinds.{Kinds}
use Rattle.row_state.specs.declared.numbered.Numbered.{Numbered}
use Rattle.row_state.specs.declared.state.State.{State}
use Rattle.row_state.specs.Code.{state_code}
use Rattle.row_cycles.specs.declared.places.Places.{Places}
use Rattle.row_cycles.specs.Noted.{AreNotedBy, AreNotedAtBy, IsPassedBy, noted_at}

slice_there : {X : Type 0} (xs : List X) (x : X) (c : Contains xs x) → slice_get xs c.0 ≡ Some x
slice_there {X} xs x c = slice_get-get_or xs c.0 x c.1 ∙ ap (λ (y : X). Some y) c.2

pub none_noted : {L : Type 0} (state_of : L → State) (k : Kinds) (lemmas : List L) (places : Places) → lemmas ≡ [] → AreNotedBy state_of k lemmas places
none_noted state_of k lemmas places none at lemma is = absurd (omega (arith, ap length none, slice_get_within lemmas at lemma is))

-- lemmas that are noted by their number
pub noted_here : {L : Type 0} (state_of : L → State) (k : Kinds) (lemmas : List L) (places : Places) (at : Numbered) → at.code ≡ state_code k at.state → AreNotedBy state_of k lemmas places → AreNotedAtBy state_of lemmas places at
noted_here state_of k lemmas places at code all i lemma is same =
    subst (λ (q : ℕ). Contains (noted_at places q) i) (ap (state_code k) same ∙ sym code) (all i lemma is)

-- where none of the noted lemmas is one of these, none is
pub none_of_all : {L : Type 0} (state_of : L → State) (P : L → Type 0) (lemmas : List L) (places : Places) (at : Numbered) (here : List ℕ) → ((lemma : L) → P lemma → state_of lemma ≡ at.state) → AreNotedAtBy state_of lemmas places at → here ≡ noted_at places at.code → All (IsPassedBy P lemmas) here → Any P lemmas → ⊥
none_of_all state_of P lemmas places at here on noted are passed any =
    let found : Some' P lemmas = some_from_any P lemmas any in
    let is : slice_get lemmas found.there.0 ≡ Some found.it = slice_there lemmas found.it found.there in
    let there : Contains here found.there.0 = subst (λ ps. Contains ps found.there.0) (sym are) (noted found.there.0 found.it is (on found.it found.holds)) in
    All-contains (IsPassedBy P lemmas) here found.there.0 passed there found.it is found.holds

pub covered_at : {L : Type 0} (P : L → Type 0) (lemmas : List L) (at : ℕ) (lemma : L) → slice_get lemmas at ≡ Some lemma → P lemma → Any P lemmas
covered_at P lemmas at lemma is holds = any_at P lemmas lemma (contains_get lemmas at lemma is) holds

pub passed_at : {L : Type 0} (P : L → Type 0) (lemmas : List L) (at : ℕ) (lemma : L) → slice_get lemmas at ≡ Some lemma → (P lemma → ⊥) → IsPassedBy P lemmas at
passed_at P lemmas at lemma is none other at_other = subst (λ x. P x → ⊥) (some_same lemma other (sym is ∙ at_other)) none

-- ---- one is noted more

-- what stands at a place of a longer list
last_or_before : {X : Type 0} (xs : List X) (x y : X) (i : ℕ) → slice_get (xs ++ x ∷ []) i ≡ Some y → (slice_get xs i ≡ Some y) ⊎ ((i ≡ length xs) × (x ≡ y))
last_or_before {X} xs x y i h =
    elim (cases_lt i (length xs)) [
      | inl before ↦ inl (slice_get-get_or xs i y before ∙ ap (λ (z : X). Some z) (sym (get_or_append_left xs (x ∷ []) y i before) ∙ get_or_from_slice_get (xs ++ x ∷ []) i y y h))
      | inr past ↦
          let last : i ≡ length xs = omega (arith, past, slice_get_within (xs ++ x ∷ []) i y h, length-append xs (x ∷ [])) in
          inr (last, sym (get_or_push xs x y i (sym last)) ∙ get_or_from_slice_get (xs ++ x ∷ []) i y y h)
    ]

pub noted_more : {L : Type 0} (state_of : L → State) (k : Kinds) (lemmas now : List L) (old new : Places) (number at : ℕ) (x : L) → AreNotedBy state_of k lemmas old → now ≡ lemmas ++ x ∷ [] → number ≡ state_code k (state_of x) → at ≡ length lemmas → noted_at new number ≡ noted_at old number ++ at ∷ [] → ((q : ℕ) → q ≢ number → noted_at new q ≡ noted_at old q) → AreNotedBy state_of k now new
noted_more {L} state_of k lemmas now old new number at x all grown is last kept others = subst (λ ls. AreNotedBy state_of k ls new) (sym grown) each
  where
    here : Contains (noted_at new number) at
    here = subst (λ (ps : List ℕ). Contains ps at) (sym kept) (Contains-push (noted_at old number) at)

    still : (q j : ℕ) → Contains (noted_at old q) j → Contains (noted_at new q) j
    still q j c =
        elim (cases_eq q number) [
          | inl one ↦ subst (λ (n : ℕ). Contains (noted_at new n) j) (sym one) (subst (λ (ps : List ℕ). Contains ps j) (sym kept) (Contains-append_left (noted_at old number) (at ∷ []) j (subst (λ (n : ℕ). Contains (noted_at old n) j) one c)))
          | inr other ↦ subst (λ (ps : List ℕ). Contains ps j) (sym (others q other)) c
        ]

    each : AreNotedBy state_of k (lemmas ++ x ∷ []) new
    each i y h =
        elim (last_or_before lemmas x y i h) [
          | inl before ↦ still (state_code k (state_of y)) i (all i y before)
          | inr end ↦ subst (λ (z : L). Contains (noted_at new (state_code k (state_of z))) i) end.1 (subst (λ (q : ℕ). Contains (noted_at new q) i) is (subst (Contains (noted_at new number)) (last ∙ sym end.0) here))
        ]

-- the lemma at a place is noted after those before it
pub noted_next : {L : Type 0} (state_of : L → State) (k : Kinds) (lemmas : List L) (old new : Places) (number at : ℕ) (x : L) → at < length lemmas → x ≡ get_or lemmas at x → AreNotedBy state_of k (take at lemmas) old → number ≡ state_code k (state_of x) → noted_at new number ≡ noted_at old number ++ at ∷ [] → ((q : ℕ) → q ≢ number → noted_at new q ≡ noted_at old q) → AreNotedBy state_of k (take (at + 1) lemmas) new
noted_next {L} state_of k lemmas old new number at x within here all is kept others =
    let longer : take (at + 1) lemmas ≡ take at lemmas ++ x ∷ [] = ap (λ n. take n lemmas) (add-one at) ∙ take-suc lemmas at x within ∙ ap (λ (y : L). take at lemmas ++ y ∷ []) (sym here) in
    noted_more state_of k (take at lemmas) (take (at + 1) lemmas) old new number at x all longer is (sym (length-take-le at lemmas (omega (arith, within)))) kept others
