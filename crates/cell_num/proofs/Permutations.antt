-- Lists of one length with the same counts are permutations of each other.
use Rattle.std.proofs.Common.{ℕ, ◌≡◌, ◌+◌, ◌<◌, ◌≤◌, Bool, cond, true, ◌&&◌, ◌==◌, List, [], ◌∷◌, ◌++◌, length, inl, inr, refl, sym, ap, subst, arith, count_by, IsPermutation, length-append}
use Rattle.std.specs.List.{list_all}
use Rattle.std.specs.Bool.{Decides}
use Rattle.std.proofs.lemmas.Bool.{cases_Bool, cases_eq, and_parts, and_from, eqb-true, eq-eqb}
use Rattle.std.proofs.lemmas.List.Sums.{sum_by-append, sum_by-cons}
use Rattle.std.proofs.lemmas.List.Sorted.{IsPermutation-refl, IsPermutation-cons, IsPermutation-middle, IsPermutation-sym, IsPermutation-trans, sum_by-IsPermutation, length_permutation}

-- xs has x between before and after
pub record Split {X : Type 0} (x : X) (xs : List X) : Type 0 where
  pub before : List X
  pub after : List X
  pub is : xs ≡ before ++ x ∷ after

pub split_cons : {X : Type 0} (x y : X) (ys : List X) → Split x ys → Split x (y ∷ ys)
split_cons x y ys s = record { before = y ∷ s.before; after = s.after; is = ap (λ zs. y ∷ zs) s.is }

pub count_cons : {X : Type 0} (p : X → Bool) (x : X) (xs : List X) → count_by p (x ∷ xs) ≡ cond (p x) 1 0 + count_by p xs
count_cons p x xs = sum_by-cons (λ y. cond (p y) 1 0) x xs

pub split_at : {X : Type 0} (eq : X → X → Bool) → ((a b : X) → Decides (eq a b) (a ≡ b)) → (x : X) (xs : List X) → 0 < count_by (eq x) xs → Split x xs
split_at eq decides x [] h = absurd (omega arith)
split_at eq decides x (y ∷ ys) h =
    elim (cases_Bool (eq x y)) [
      | inl same ↦ record { before = []; after = ys; is = ap (λ z. z ∷ ys) (sym ((decides x y).0 same)) }
      | inr other ↦ split_cons x y ys (split_at eq decides x ys (let none : ◌≡◌ {A = ℕ} (cond (eq x y) 1 0) 0 = rw other refl in omega (arith, h, count_cons (eq x) y ys, none)))
    ]

-- where every element is in ys as often as in xs or more often, and the lists have one length
pub permutation_from_counts : {X : Type 0} (eq : X → X → Bool) → ((a b : X) → Decides (eq a b) (a ≡ b)) → (xs ys : List X) → length ys ≡ length xs → ((z : X) → count_by (eq z) xs ≤ count_by (eq z) ys) → IsPermutation xs ys
permutation_from_counts eq decides [] [] same counts = IsPermutation-refl _
permutation_from_counts eq decides [] (y ∷ ys) same counts = absurd (omega (arith, same))
permutation_from_counts {X} eq decides (x ∷ xs) ys same counts =
    let at_x = counts x in
    let itself : eq x x ≡ true = (decides x x).1 refl in
    let some : 0 < count_by (eq x) ys = let one : ◌≡◌ {A = ℕ} (cond (eq x x) 1 0) 1 = rw itself refl in omega (arith, at_x, count_cons (eq x) x xs, one) in
    let s : Split x ys = split_at eq decides x ys some in
    let shorter : length (s.before ++ s.after) ≡ length xs = omega (arith, same, ap length s.is, length-append s.before (x ∷ s.after), length-append s.before s.after) in
    let fewer : (z : X) → count_by (eq z) xs ≤ count_by (eq z) (s.before ++ s.after) = λ z.
    omega (arith, counts z, count_cons (eq z) x xs, count_cons (eq z) x s.after, ap (count_by (eq z)) s.is, sum_by-append (λ y. cond (eq z y) 1 0) s.before (x ∷ s.after), sum_by-append (λ y. cond (eq z y) 1 0) s.before s.after) in
    let inner : IsPermutation xs (s.before ++ s.after) = permutation_from_counts eq decides xs (s.before ++ s.after) shorter fewer in
    let moved : IsPermutation (x ∷ (s.before ++ s.after)) (s.before ++ x ∷ s.after) = IsPermutation-sym _ _ (IsPermutation-middle s.before x s.after) in
    subst (λ zs. IsPermutation (x ∷ xs) zs) (sym s.is) (IsPermutation-trans _ _ _ (IsPermutation-cons x _ _ inner) moved)

pub list_all_middle : {X : Type 0} (p : X → Bool) (before : List X) (z : X) (after : List X) → list_all p (before ++ z ∷ after) ≡ true → p z ≡ true
list_all_middle p [] z after h = (and_parts _ _ h).0
list_all_middle p (x ∷ xs) z after h = list_all_middle p xs z after (and_parts _ _ h).1

pub list_all_from : {X : Type 0} (p : X → Bool) (xs : List X) → ((z : X) → p z ≡ true) → list_all p xs ≡ true
list_all_from p [] h = refl
list_all_from p (x ∷ xs) h = and_from _ _ (h x) (list_all_from p xs h)

-- the test by counts
pub counts_decide : {X : Type 0} (eq : X → X → Bool) → ((a b : X) → Decides (eq a b) (a ≡ b)) → (xs ys : List X) → Decides ((length ys == length xs) && list_all (λ x. count_by (eq x) ys == count_by (eq x) xs) xs) (IsPermutation xs ys)
counts_decide {X} eq decides xs ys = (sound, complete)
  where
    sound : ((length ys == length xs) && list_all (λ x. count_by (eq x) ys == count_by (eq x) xs) xs) ≡ true → IsPermutation xs ys
    sound h =
        let parts : ((length ys == length xs) ≡ true) × (list_all (λ x. count_by (eq x) ys == count_by (eq x) xs) xs ≡ true) = and_parts _ _ h in
        let at : (z : X) → count_by (eq z) xs ≤ count_by (eq z) ys = λ z.
        elim (cases_eq (count_by (eq z) xs) 0) [
          | inl none ↦ omega arith
          | inr some ↦
              let s : Split z xs = split_at eq decides z xs (omega arith) in
              let there : (count_by (eq z) ys == count_by (eq z) xs) ≡ true = list_all_middle (λ x. count_by (eq x) ys == count_by (eq x) xs) s.before z s.after (subst (λ zs. list_all (λ x. count_by (eq x) ys == count_by (eq x) xs) zs ≡ true) s.is parts.1) in
              omega (arith, eqb-true _ _ there)
        ] in
        permutation_from_counts eq decides xs ys (eqb-true _ _ parts.0) at

    complete : IsPermutation xs ys → ((length ys == length xs) && list_all (λ x. count_by (eq x) ys == count_by (eq x) xs) xs) ≡ true
    complete h = and_from _ _ (eq-eqb _ _ (length_permutation xs ys h)) (list_all_from _ xs (λ z. eq-eqb _ _ (sum_by-IsPermutation _ xs ys h)))
