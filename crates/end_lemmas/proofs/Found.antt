-- What is found by numbers of states is what a walk through all lemmas finds.
use Rattle.std.specs.Prelude.{ℕ, ◌≡◌, ◌≢◌, ◌↔◌, ◌++◌, ◌⊎◌, Bool, false, true, List, [], ◌∷◌, Option, Some, None, Any, Contains, IsTrue, MatchOption, length, nat_eq, option_map, slice_get, unwrap_or}
use Rattle.std.specs.HashMap.{get}
use Rattle.std.proofs.Common.{refl, sym, ap, subst, arith, ◌∙◌, inl, inr}
use Rattle.std.proofs.lemmas.Bool.{cases_eq, cases_lt}
use Rattle.std.proofs.lemmas.List.{get_or_append_left, get_or_push, length-append}
use Rattle.std.proofs.lemmas.List.Elements.{Contains-append_left, Contains-push}
use Rattle.std.proofs.lemmas.Option.{get_or_from_slice_get, none-some, same_Some, slice_get-get_or, slice_get_within}
use Rattle.cell_num.proofs.Lists.{contains_get}
use Rattle.cell_num.proofs.Pairs.{Some', any_at, some_from_any}
use Rattle.end_lemmas.specs.declared.lemma.EndLemma.{EndLemma}
use Rattle.end_lemmas.specs.declared.index.LemmaIndex.{LemmaIndex}
use Rattle.end_lemmas.specs.Indexed.{IsIndexOf, noted_at}
use Rattle.end_lemmas.specs.Justified.{IsKnown, Says, SaysAt}

-- ---- what stands at a place

slice_there : {X : Type 0} (xs : List X) (x : X) (c : Contains xs x) → slice_get xs c.0 ≡ Some x
slice_there {X} xs x c = slice_get-get_or xs c.0 x c.1 ∙ ap (λ (y : X). Some y) c.2

-- of a longer list
pub last_or_before : {X : Type 0} (xs : List X) (x y : X) (i : ℕ) → slice_get (xs ++ x ∷ []) i ≡ Some y
    → (slice_get xs i ≡ Some y) ⊎ ((i ≡ length xs) × (x ≡ y))
last_or_before {X} xs x y i h =
    elim (cases_lt i (length xs)) [
      | inl before ↦
          inl (slice_get-get_or xs i y before
          ∙ ap (λ (z : X). Some z)
          (sym (get_or_append_left xs (x ∷ []) y i before) ∙ get_or_from_slice_get (xs ++ x ∷ []) i y y h))
      | inr past ↦
          let last : i ≡ length xs =
          omega (arith, past, slice_get_within (xs ++ x ∷ []) i y h, length-append xs (x ∷ [])) in
          inr (last, sym (get_or_push xs x y i (sym last)) ∙ get_or_from_slice_get (xs ++ x ∷ []) i y y h)
    ]

-- ---- what a lemma at a place says

module _ {S : Type 0} (lemmas : List (EndLemma S)) (done : ℕ) (s : S) (need at : ℕ) where
  pub says_at : (x : EndLemma S) (b : Bool) → slice_get lemmas at ≡ Some x → IsTrue b ↔ Says done s need x
      → IsTrue b ↔ SaysAt lemmas done s need at
  says_at x b there (to, from) = (
    λ on. record { lemma = x; there = there; says = to on },
    λ one. from (subst (Says done s need) (same_Some one.lemma x (sym one.there ∙ there)) one.says),
  )

  pub none_at : slice_get lemmas at ≡ None → IsTrue false ↔ SaysAt lemmas done s need at
  none_at none = (λ on. absurd cc, λ one. absurd (none-some one.lemma (sym none ∙ one.there)))

-- ---- where it is noted

module _ {S : Type 0} (number : ℕ → S → ℕ) (lemmas : List (EndLemma S)) where
  module _ (index : LemmaIndex) (done : ℕ) (s : S) (need : ℕ) (all : IsIndexOf number lemmas index) where
    found : Any (Says done s need) lemmas → Any (SaysAt lemmas done s need) (noted_at index (number done s))
    found any =
        let one : Some' (Says done s need) lemmas = some_from_any (Says done s need) lemmas any in
        let at : ℕ = one.there.0 in
        let is : slice_get lemmas at ≡ Some one.it = slice_there lemmas one.it one.there in
        let same : number one.it.done one.it.state ≡ number done s =
        ap (λ (d : ℕ). number d one.it.state) one.holds.levels ∙ ap (number done) one.holds.same in
        let noted : Contains (noted_at index (number done s)) at =
        subst (λ (q : ℕ). Contains (noted_at index q) at) same (all at one.it is) in
        any_at (SaysAt lemmas done s need) (noted_at index (number done s)) at noted
        (record { lemma = one.it; there = is; says = one.holds })

    -- where no place of those noted says so, no lemma does
    none_says : (places : List ℕ) → places ≡ noted_at index (number done s)
        → (Any (SaysAt lemmas done s need) places → ⊥) → Any (Says done s need) lemmas → ⊥
    none_says places is none any = none (subst (Any (SaysAt lemmas done s need)) (sym is) (found any))

    pub place_by : (places : List ℕ) (place : Option ℕ) → places ≡ noted_at index (number done s)
        → MatchOption place (Any (SaysAt lemmas done s need) places → ⊥) (SaysAt lemmas done s need)
        → MatchOption place (Any (Says done s need) lemmas → ⊥) (SaysAt lemmas done s need)
    place_by places None is none = none_says places is none
    place_by places (Some at) is says = says

  -- ---- one place is found, or none

  module _ (done : ℕ) (s : S) (need : ℕ) where
    pub known_at : (at : ℕ) → SaysAt lemmas done s need at → IsTrue true ↔ IsKnown lemmas done s need
    known_at at one = (
      λ _. inr (any_at (Says done s need) lemmas one.lemma (contains_get lemmas at one.lemma one.there) one.says),
      λ _. refl,
    )

    pub unknown : ((need ≡ 0) → ⊥) → (Any (Says done s need) lemmas → ⊥)
        → IsTrue false ↔ IsKnown lemmas done s need
    unknown some none = (λ on. absurd cc, back)
      where
        back : IsKnown lemmas done s need → IsTrue false
        back (inl nothing) = absurd (some nothing)
        back (inr any) = absurd (none any)

  -- ---- one is noted more

  pub index_more : (old new : LemmaIndex) (noted at : ℕ) (x : EndLemma S) → IsIndexOf number lemmas old
      → noted ≡ number x.done x.state → at ≡ length lemmas
      → option_map (λ p. p.items) (get nat_eq new.places noted)
      ≡ Some (unwrap_or (option_map (λ p. p.items) (get nat_eq old.places noted)) [] ++ at ∷ [])
      → ((q : ℕ) → q ≢ noted → get nat_eq new.places q ≡ get nat_eq old.places q)
      → IsIndexOf number (lemmas ++ x ∷ []) new
  index_more old new noted at x all is last kept others i y h =
      elim (last_or_before lemmas x y i h) [
        | inl before ↦ still (number y.done y.state) i (all i y before)
        | inr end ↦
            subst (λ (z : EndLemma S). Contains (noted_at new (number z.done z.state)) i) end.1
            (subst (λ (q : ℕ). Contains (noted_at new q) i) is
            (subst (Contains (noted_at new noted)) (last ∙ sym end.0) here))
      ]
    where
      grown : noted_at new noted ≡ noted_at old noted ++ at ∷ []
      grown = ap (λ (o : Option (List ℕ)). unwrap_or o []) kept

      here : Contains (noted_at new noted) at
      here = subst (λ (ps : List ℕ). Contains ps at) (sym grown) (Contains-push (noted_at old noted) at)

      still : (q j : ℕ) → Contains (noted_at old q) j → Contains (noted_at new q) j
      still q j c =
          elim (cases_eq q noted) [
            | inl one ↦
                subst (λ (n : ℕ). Contains (noted_at new n) j) (sym one)
                (subst (λ (ps : List ℕ). Contains ps j) (sym grown)
                (Contains-append_left (noted_at old noted) (at ∷ []) j
                (subst (λ (n : ℕ). Contains (noted_at old n) j) one c)))
            | inr other ↦
                subst (λ (ps : List ℕ). Contains ps j)
                (sym (ap (λ o. unwrap_or (option_map (λ p. p.items) o) []) (others q other))) c
          ]
