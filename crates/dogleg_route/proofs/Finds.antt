-- What is found in a list by a test.
use Rattle.std.proofs.Common.{◌≡◌, ◌⊎◌, Bool, true, false, List, [], ◌∷◌, Some, None, inl, inr, refl, sym, subst, ◌∙◌, AllPairs, Contains, find, filter}
use Rattle.std.proofs.lemmas.List.Elements.{All-contains}
use Rattle.cell_num.proofs.Lists.{some_same, contains_none, contains_cons, contains_here, contains_there}
use Rattle.cell_num.proofs.Pairs.{pairs_tail, pairs_head}

-- an element that passes a test
pub record Found {X : Type 0} (test : X → Bool) (xs : List X) (u : X) : Type 0 where
  pub there : Contains xs u
  pub passes : test u ≡ true

found_more : {X : Type 0} (test : X → Bool) (x : X) (xs : List X) (u : X) → Found test xs u → Found test (x ∷ xs) u
found_more test x xs u k = record { there = contains_there x xs u k.there; passes = k.passes }

pub found_there : {X : Type 0} (test : X → Bool) (xs : List X) (u : X) → find test xs ≡ Some u → Found test xs u
found_there test [] u e = absurd cc
found_there {X} test (x ∷ xs) u e = by (test x) refl (λ f. found_there test xs u f)
  where
    by : (b : Bool) → test x ≡ b → (find test xs ≡ Some u → Found test xs u) → Found test (x ∷ xs) u
    by true here later =
        let found : find test (x ∷ xs) ≡ Some x = rw here refl in
        subst (λ z. Found test (x ∷ xs) z) (some_same x u (sym found ∙ e)) (record { there = contains_here x xs; passes = here })
    by false here later = let found : find test (x ∷ xs) ≡ find test xs = rw here refl in found_more test x xs u (later (sym found ∙ e))

-- it is the first that passes
pub found_first : {X : Type 0} (R : X → X → Type 0) (test : X → Bool) (xs : List X) (u t : X) → AllPairs R xs → find test xs ≡ Some u → Contains xs t → test t ≡ true → (u ≡ t) ⊎ R u t
found_first R test [] u t h e there passes = absurd (contains_none t there)
found_first {X} R test (x ∷ xs) u t h e there passes = by (test x) refl (λ f rest. found_first R test xs u t (pairs_tail R x xs h) f rest passes)
  where
    by : (b : Bool) → test x ≡ b → (find test xs ≡ Some u → Contains xs t → (u ≡ t) ⊎ R u t) → (u ≡ t) ⊎ R u t
    by true here later =
        let found : find test (x ∷ xs) ≡ Some x = rw here refl in
        let is : x ≡ u = some_same x u (sym found ∙ e) in
        elim (contains_cons x xs t there) [
          | inl same ↦ inl (sym is ∙ same)
          | inr rest ↦ inr (subst (λ z. R z t) is (All-contains (R x) xs t (pairs_head R x xs h) rest))
        ]
    by false here later =
        let found : find test (x ∷ xs) ≡ find test xs = rw here refl in
        elim (contains_cons x xs t there) [
          | inl same ↦ absurd (let yes' : test x ≡ true = subst (λ z. test z ≡ true) (sym same) passes in cc)
          | inr rest ↦ later (sym found ∙ e) rest
        ]

pub none_found : {X : Type 0} (test : X → Bool) (xs : List X) (t : X) → find test xs ≡ None → Contains xs t → test t ≡ true → ⊥
none_found test [] t e there passes = contains_none t there
none_found {X} test (x ∷ xs) t e there passes = by (test x) refl (λ f rest. none_found test xs t f rest passes)
  where
    by : (b : Bool) → test x ≡ b → (find test xs ≡ None → Contains xs t → ⊥) → ⊥
    by true here later = let found : find test (x ∷ xs) ≡ Some x = rw here refl in cc
    by false here later =
        let found : find test (x ∷ xs) ≡ find test xs = rw here refl in
        elim (contains_cons x xs t there) [
          | inl same ↦ let yes' : test x ≡ true = subst (λ z. test z ≡ true) (sym same) passes in cc
          | inr rest ↦ later (sym found ∙ e) rest
        ]

pub filtered : {X : Type 0} (test : X → Bool) (xs : List X) (u : X) → Contains (filter test xs) u → Found test xs u
filtered test [] u there = absurd (contains_none u there)
filtered {X} test (x ∷ xs) u there = by (test x) refl (λ rest. filtered test xs u rest)
  where
    by : (b : Bool) → test x ≡ b → (Contains (filter test xs) u → Found test xs u) → Found test (x ∷ xs) u
    by true here later =
        let kept : filter test (x ∷ xs) ≡ x ∷ filter test xs = rw here refl in
        elim (contains_cons x (filter test xs) u (subst (λ zs. Contains zs u) kept there)) [
          | inl same ↦ subst (λ z. Found test (x ∷ xs) z) same (record { there = contains_here x xs; passes = here })
          | inr rest ↦ found_more test x xs u (later rest)
        ]
    by false here later = let kept : filter test (x ∷ xs) ≡ filter test xs = rw here refl in found_more test x xs u (later (subst (λ zs. Contains zs u) kept there))
