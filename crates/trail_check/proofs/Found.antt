-- What is found by numbers of states is what a walk through all lemmas finds.
use Rattle.std.specs.Prelude.{ℕ, ◌≡◌, ◌≢◌, ◌==◌, ◌&&◌, ◌++◌, true, false, List, [], ◌∷◌, Option, Some, None, ◌⊎◌, Contains, length, nat_eq, nat_le, option_map, slice_get, unwrap_or}
use Rattle.std.specs.HashMap.{get}
use Rattle.std.specs.List.{list_any}
use Rattle.std.proofs.Common.{refl, sym, ap, subst, arith, ◌∙◌, inl, inr}
use Rattle.std.proofs.lemmas.Bool.{and_parts, cases_eq, cases_lt, eqb-true}
use Rattle.std.proofs.lemmas.Bool.Decides.{same_from_decides}
use Rattle.std.proofs.lemmas.List.{get_or_append_left, get_or_push, length-append}
use Rattle.std.proofs.lemmas.List.Elements.{Contains-append_left, Contains-push}
use Rattle.std.proofs.lemmas.Option.{get_or_from_slice_get, slice_get-get_or, slice_get_within}
use Rattle.cell_num.proofs.Lists.{contains_get}
use Rattle.cell_num.proofs.Pairs.{Some', test_finds, test_there}
use Rattle.trail_state.specs.declared.state.Place.{Place}
use Rattle.trail_check.specs.declared.lemma.TrailLemma.{TrailLemma}
use Rattle.trail_check.specs.declared.index.LemmaIndex.{LemmaIndex}
use Rattle.trail_check.specs.Indexed.{IsIndexOf, noted_at, says_at, state_number}
use Rattle.trail_check.specs.Justified.{same_state, says}
use Rattle.trail_check.proofs.Sound.{state_is}

slice_there : {X : Type 0} (xs : List X) (x : X) (c : Contains xs x) → slice_get xs c.0 ≡ Some x
slice_there {X} xs x c = slice_get-get_or xs c.0 x c.1 ∙ ap (λ (y : X). Some y) c.2

-- what the lemma at a place says is said by one of them
says_there : (lemmas : List TrailLemma) (done : ℕ) (s : List Place) (need at : ℕ) → says_at lemmas done s need at ≡ true → list_any (says done s need) lemmas ≡ true
says_there lemmas done s need at h = by (slice_get lemmas at) refl h
  where
    by : (o : Option TrailLemma) → slice_get lemmas at ≡ o → unwrap_or (option_map (says done s need) o) false ≡ true → list_any (says done s need) lemmas ≡ true
    by None e h = absurd cc
    by (Some x) e h = test_there (says done s need) lemmas x (contains_get lemmas at x e) h

-- one that says so is on this state
said_on : (done : ℕ) (s : List Place) (need : ℕ) (x : TrailLemma) → says done s need x ≡ true → state_number x.done x.state ≡ state_number done s
said_on done s need x h =
    let one : (((x.done == done) && same_state x.state s) ≡ true) × (nat_le need x.bound ≡ true) = and_parts _ _ h in
    let two : ((x.done == done) ≡ true) × (same_state x.state s ≡ true) = and_parts _ _ one.0 in
    ap (λ (n : ℕ). state_number n x.state) (eqb-true x.done done two.0) ∙ ap (state_number done) (state_is x.state s two.1)

-- so it is found
says_found : (lemmas : List TrailLemma) (index : LemmaIndex) (done : ℕ) (s : List Place) (need : ℕ) → IsIndexOf lemmas index → list_any (says done s need) lemmas ≡ true → list_any (says_at lemmas done s need) (noted_at index (state_number done s)) ≡ true
says_found lemmas index done s need all h =
    let it : Some' (λ x. says done s need x ≡ true) lemmas = test_finds (says done s need) lemmas h in
    let at : ℕ = it.there.0 in
    let is : slice_get lemmas at ≡ Some it.it = slice_there lemmas it.it it.there in
    let noted : Contains (noted_at index (state_number done s)) at = subst (λ (n : ℕ). Contains (noted_at index n) at) (said_on done s need it.it it.holds) (all at it.it is) in
    test_there (says_at lemmas done s need) (noted_at index (state_number done s)) at noted (ap (λ (o : Option TrailLemma). unwrap_or (option_map (says done s need) o) false) is ∙ it.holds)

pub looked_up : (lemmas : List TrailLemma) (index : LemmaIndex) (done : ℕ) (s : List Place) (need : ℕ) → IsIndexOf lemmas index → list_any (says_at lemmas done s need) (noted_at index (state_number done s)) ≡ list_any (says done s need) lemmas
looked_up lemmas index done s need all =
    same_from_decides {P = list_any (says done s need) lemmas ≡ true} (list_any (says_at lemmas done s need) (noted_at index (state_number done s))) (list_any (says done s need) lemmas) (found, says_found lemmas index done s need all) ((λ h. h), (λ h. h))
  where
    found : list_any (says_at lemmas done s need) (noted_at index (state_number done s)) ≡ true → list_any (says done s need) lemmas ≡ true
    found h =
        let it : Some' (λ at. says_at lemmas done s need at ≡ true) (noted_at index (state_number done s)) = test_finds (says_at lemmas done s need) (noted_at index (state_number done s)) h in
        says_there lemmas done s need it.it it.holds

-- ---- one more is noted

-- what stands at a place of a longer list
last_or_before : {X : Type 0} (xs : List X) (x y : X) (i : ℕ) → slice_get (xs ++ x ∷ []) i ≡ Some y → (slice_get xs i ≡ Some y) ⊎ ((i ≡ length xs) × (x ≡ y))
last_or_before {X} xs x y i h =
    elim (cases_lt i (length xs)) [
      | inl before ↦ inl (slice_get-get_or xs i y before ∙ ap (λ (z : X). Some z) (sym (get_or_append_left xs (x ∷ []) y i before) ∙ get_or_from_slice_get (xs ++ x ∷ []) i y y h))
      | inr past ↦
          let last : i ≡ length xs = omega (arith, past, slice_get_within (xs ++ x ∷ []) i y h, length-append xs (x ∷ [])) in
          inr (last, sym (get_or_push xs x y i (sym last)) ∙ get_or_from_slice_get (xs ++ x ∷ []) i y y h)
    ]

noted_of : (index : LemmaIndex) (q : ℕ) (places : List ℕ) → option_map (λ p. p.items) (get nat_eq index.places q) ≡ Some places → noted_at index q ≡ places
noted_of index q places h = ap (λ (o : Option (List ℕ)). unwrap_or o []) h

pub index_more : (lemmas : List TrailLemma) (old new : LemmaIndex) (number at : ℕ) (x : TrailLemma) → IsIndexOf lemmas old → number ≡ state_number x.done x.state → at ≡ length lemmas → option_map (λ p. p.items) (get nat_eq new.places number) ≡ Some (unwrap_or (option_map (λ p. p.items) (get nat_eq old.places number)) [] ++ at ∷ []) → ((q : ℕ) → q ≢ number → get nat_eq new.places q ≡ get nat_eq old.places q) → IsIndexOf (lemmas ++ x ∷ []) new
index_more lemmas old new number at x all is last kept others i y h =
    elim (last_or_before lemmas x y i h) [
      | inl before ↦ still (state_number y.done y.state) i (all i y before)
      | inr end ↦ subst (λ (z : TrailLemma). Contains (noted_at new (state_number z.done z.state)) i) end.1 (subst (λ (q : ℕ). Contains (noted_at new q) i) is (subst (Contains (noted_at new number)) (last ∙ sym end.0) here))
    ]
  where
    grown : noted_at new number ≡ noted_at old number ++ at ∷ []
    grown = noted_of new number (noted_at old number ++ at ∷ []) kept

    here : Contains (noted_at new number) at
    here = subst (λ (ps : List ℕ). Contains ps at) (sym grown) (Contains-push (noted_at old number) at)

    still : (q j : ℕ) → Contains (noted_at old q) j → Contains (noted_at new q) j
    still q j c =
        elim (cases_eq q number) [
          | inl one ↦ subst (λ (n : ℕ). Contains (noted_at new n) j) (sym one) (subst (λ (ps : List ℕ). Contains ps j) (sym grown) (Contains-append_left (noted_at old number) (at ∷ []) j (subst (λ (n : ℕ). Contains (noted_at old n) j) one c)))
          | inr other ↦ subst (λ (ps : List ℕ). Contains ps j) (sym (ap (λ o. unwrap_or (option_map (λ p. p.items) o) []) (others q other))) c
        ]
