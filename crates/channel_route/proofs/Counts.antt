-- Counts of elements on levels.
use Rattle.std.proofs.Common.{ℕ, zero, suc, ◌≡◌, ◌≢◌, ◌+◌, ◌<◌, ◌≤◌, ◌⊎◌, ◌==◌, ◌&&◌, ltb, Bool, true, false, cond, List, [], ◌∷◌, inl, inr, refl, sym, subst, arith, Contains, count_by}
use Rattle.std.proofs.lemmas.Bool.{cases_Bool, cases_eq, cases_order, and_parts, and_from, eqb-true, eq-eqb, ltb-true, lt-ltb}
use Rattle.std.proofs.lemmas.List.Folds.{list_any_none}
use Rattle.cell_num.proofs.Permutations.{count_cons}
use Rattle.cell_num.proofs.Lists.{contains_none, contains_cons, contains_here, contains_there, all_from_contains}
use Rattle.cell_num.proofs.Pairs.{Some', OneEach, one_each_rest, parts_differ, none_counted}

-- counts of a test that says no more than another one
pub count_le : {X : Type 0} (p q : X → Bool) (xs : List X) → ((x : X) → q x ≡ true → p x ≡ true) → count_by q xs ≤ count_by p xs
count_le p q [] h = omega arith
count_le p q (x ∷ xs) h =
    elim (cases_Bool (q x)) [
      | inl yes' ↦
          let a : ◌≡◌ {A = ℕ} (cond (q x) 1 0) 1 = rw yes' refl in
          let b : ◌≡◌ {A = ℕ} (cond (p x) 1 0) 1 = rw (h x yes') refl in
          omega (arith, a, b, count_cons p x xs, count_cons q x xs, count_le p q xs h)
      | inr no' ↦
          let a : ◌≡◌ {A = ℕ} (cond (q x) 1 0) 0 = rw no' refl in
          omega (arith, a, count_cons p x xs, count_cons q x xs, count_le p q xs h)
    ]

pub count_less : {X : Type 0} (p q : X → Bool) (xs : List X) (x : X) → ((x : X) → q x ≡ true → p x ≡ true) → Contains xs x → p x ≡ true → q x ≡ false → count_by q xs < count_by p xs
count_less p q [] x h there px qx = absurd (contains_none x there)
count_less p q (y ∷ ys) x h there px qx =
    elim (contains_cons y ys x there) [
      | inl same ↦
          let a : ◌≡◌ {A = ℕ} (cond (q y) 1 0) 0 = rw (subst (λ z. q z ≡ false) (sym same) qx) refl in
          let b : ◌≡◌ {A = ℕ} (cond (p y) 1 0) 1 = rw (subst (λ z. p z ≡ true) (sym same) px) refl in
          omega (arith, a, b, count_cons p y ys, count_cons q y ys, count_le p q ys h)
      | inr rest ↦ omega (arith, count_cons p y ys, count_cons q y ys, count_less p q ys x h rest px qx, head)
    ]
  where
    head : cond (q y) 1 0 ≤ cond (p y) 1 0
    head = elim (cases_Bool (q y)) [
      | inl yes' ↦
          let a : ◌≡◌ {A = ℕ} (cond (q y) 1 0) 1 = rw yes' refl in
          let b : ◌≡◌ {A = ℕ} (cond (p y) 1 0) 1 = rw (h y yes') refl in
          omega (arith, a, b)
      | inr no' ↦ let a : ◌≡◌ {A = ℕ} (cond (q y) 1 0) 0 = rw no' refl in omega (arith, a)
    ]

-- counts where each element of the list that passes one test passes the other
pub count_within : {X : Type 0} (p q : X → Bool) (xs : List X) → ((x : X) → Contains xs x → p x ≡ true → q x ≡ true) → count_by p xs ≤ count_by q xs
count_within p q [] h = omega arith
count_within p q (x ∷ xs) h =
    let rest : count_by p xs ≤ count_by q xs = count_within p q xs (λ y there e. h y (contains_there x xs y there) e) in
    elim (cases_Bool (p x)) [
      | inr no' ↦ let a : ◌≡◌ {A = ℕ} (cond (p x) 1 0) 0 = rw no' refl in omega (arith, a, rest, count_cons p x xs, count_cons q x xs)
      | inl yes' ↦
          let a : ◌≡◌ {A = ℕ} (cond (p x) 1 0) 1 = rw yes' refl in
          let b : ◌≡◌ {A = ℕ} (cond (q x) 1 0) 1 = rw (h x (contains_here x xs) yes') refl in
          omega (arith, a, b, rest, count_cons p x xs, count_cons q x xs)
    ]

-- counts of two tests that cover a third
count_both : {X : Type 0} (p q r : X → Bool) (xs : List X) → ((x : X) → p x ≡ true → (q x ≡ true) ⊎ (r x ≡ true)) → count_by p xs ≤ count_by q xs + count_by r xs
count_both p q r [] h = omega arith
count_both {X} p q r (x ∷ xs) h = omega (arith, here, count_cons p x xs, count_cons q x xs, count_cons r x xs, count_both p q r xs h)
  where
    here : cond (p x) 1 0 ≤ cond (q x) 1 0 + cond (r x) 1 0
    here = elim (cases_Bool (p x)) [
      | inr no' ↦ let a : ◌≡◌ {A = ℕ} (cond (p x) 1 0) 0 = rw no' refl in omega (arith, a)
      | inl yes' ↦
          let a : ◌≡◌ {A = ℕ} (cond (p x) 1 0) 1 = rw yes' refl in
          elim (h x yes') [
            | inl first ↦ let b : ◌≡◌ {A = ℕ} (cond (q x) 1 0) 1 = rw first refl in omega (arith, a, b)
            | inr second ↦ let b : ◌≡◌ {A = ℕ} (cond (r x) 1 0) 1 = rw second refl in omega (arith, a, b)
          ]
    ]

-- a test that holds of one element at most
pub count_one : {X : Type 0} (key : X → ℕ) (p : X → Bool) (xs : List X) → OneEach key xs → ((a b : X) → Contains xs a → Contains xs b → p a ≡ true → p b ≡ true → key a ≡ key b) → count_by p xs ≤ 1
count_one key p [] one h = omega arith
count_one {X} key p (x ∷ xs) one h =
    elim (cases_Bool (p x)) [
      | inr no' ↦
          let a : ◌≡◌ {A = ℕ} (cond (p x) 1 0) 0 = rw no' refl in
          omega (arith, a, count_cons p x xs, count_one key p xs (one_each_rest key x xs one) (λ a b ha hb pa pb. h a b (contains_there x xs a ha) (contains_there x xs b hb) pa pb))
      | inl yes' ↦
          let a : ◌≡◌ {A = ℕ} (cond (p x) 1 0) 1 = rw yes' refl in
          let none : count_by p xs ≡ 0 = none_counted p xs (list_any_none p xs (all_from_contains (λ y. p y ≡ false) xs (λ y there. fails yes' y there))) in
          omega (arith, a, none, count_cons p x xs)
    ]
  where
    fails : p x ≡ true → (y : X) → Contains xs y → p y ≡ false
    fails px y there =
        elim (cases_Bool (p y)) [
          | inr no' ↦ no'
          | inl yes' ↦ absurd (parts_differ key (x ∷ []) xs x y one (contains_here x []) there (h x y (contains_here x xs) (contains_there x xs y there) px yes'))
        ]

-- an element that passes a test, below a level or on it
abbrev pub below : {X : Type 0} → (X → Bool) → (X → ℕ) → ℕ → X → Bool
below test level n x = test x && ltb (level x) n

abbrev pub on : {X : Type 0} → (X → Bool) → (X → ℕ) → ℕ → X → Bool
on test level n x = test x && (level x == n)

-- with one at most on each level there are no more than levels
pub few_below : {X : Type 0} (test : X → Bool) (level : X → ℕ) (xs : List X) → ((n : ℕ) → count_by (on test level n) xs ≤ 1) → (n : ℕ) → count_by (below test level n) xs ≤ n
few_below {X} test level xs one zero = omega (arith, none_counted (below test level 0) xs (list_any_none (below test level 0) xs (all_from_contains (λ x. below test level 0 x ≡ false) xs (λ x there. nothing x))))
  where
    nothing : (x : X) → below test level 0 x ≡ false
    nothing x =
        elim (cases_Bool (below test level 0 x)) [
          | inr no' ↦ no'
          | inl yes' ↦ let parts : (test x ≡ true) × (ltb (level x) 0 ≡ true) = and_parts _ _ yes' in let low : level x < 0 = ltb-true (level x) 0 parts.1 in absurd (omega (arith, low))
        ]
few_below {X} test level xs one (suc n) =
    omega (arith, few_below test level xs one n, one n, count_both (below test level (suc n)) (below test level n) (on test level n) xs split)
  where
    split : (x : X) → below test level (suc n) x ≡ true → (below test level n x ≡ true) ⊎ (on test level n x ≡ true)
    split x h =
        let parts : (test x ≡ true) × (ltb (level x) (suc n) ≡ true) = and_parts _ _ h in
        let low : level x < suc n = ltb-true (level x) (suc n) parts.1 in
        elim (cases_eq (level x) n) [
          | inl same ↦ inr (and_from _ _ parts.0 (eq-eqb (level x) n same))
          | inr other ↦ inl (and_from _ _ parts.0 (lt-ltb (level x) n (lower (level x) low other)))
        ]
      where
        lower : (m : ℕ) → m < suc n → m ≢ n → m < n
        lower m low other = elim (cases_order m n) [ inl same ↦ absurd (other same) | inr order ↦ elim order [ inl less ↦ less | inr more ↦ absurd (omega (arith, low, more)) ] ]

-- with one on each level there are so many
pub many_below : {X : Type 0} (test : X → Bool) (level : X → ℕ) (xs : List X) (n : ℕ) → ((i : ℕ) → i < n → Some' (λ x. on test level i x ≡ true) xs) → n ≤ count_by (below test level n) xs
many_below test level xs zero h = omega arith
many_below {X} test level xs (suc n) h =
    let t : Some' (λ (x : X). on test level n x ≡ true) xs = h n (omega arith) in
    let parts : (test t.it ≡ true) × ((level t.it == n) ≡ true) = and_parts _ _ t.holds in
    let same : level t.it ≡ n = eqb-true (level t.it) n parts.1 in
    let inside : below test level (suc n) t.it ≡ true = and_from _ _ parts.0 (lt-ltb (level t.it) (suc n) (omega (arith, same))) in
    let fewer : count_by (below test level n) xs < count_by (below test level (suc n)) xs = count_less (below test level (suc n)) (below test level n) xs t.it more t.there inside (outside t.it same) in
    omega (arith, fewer, many_below test level xs n (λ i less. h i (omega (arith, less))))
  where
    more : (x : X) → below test level n x ≡ true → below test level (suc n) x ≡ true
    more x e =
        let parts : (test x ≡ true) × (ltb (level x) n ≡ true) = and_parts _ _ e in
        let low : level x < n = ltb-true (level x) n parts.1 in
        and_from _ _ parts.0 (lt-ltb (level x) (suc n) (omega (arith, low)))

    outside : (x : X) → level x ≡ n → below test level n x ≡ false
    outside x e =
        elim (cases_Bool (below test level n x)) [
          | inr no' ↦ no'
          | inl yes' ↦ let parts : (test x ≡ true) × (ltb (level x) n ≡ true) = and_parts _ _ yes' in let low : level x < n = ltb-true (level x) n parts.1 in absurd (omega (arith, low, e))
        ]
