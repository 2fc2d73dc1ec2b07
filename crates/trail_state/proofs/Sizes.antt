-- How many numbers below n are in a set, and in one with more numbers.
use Rattle.std.proofs.Common.{ℕ, zero, suc, ◌≡◌, ◌≢◌, ◌+◌, ◌<◌, ◌≤◌, ◌==◌, ◌&&◌, ◌||◌, Bool, true, false, if◌then◌else◌, List, [], ◌∷◌, length, refl, sym, ap, arith, ◌∙◌, inl, inr, All, AllPairs, cond, count_by}
use Rattle.std.proofs.lemmas.Bool.{cases_Bool, cases_eq, eq-eqb, ne_eqb}
use Rattle.std.proofs.lemmas.List.Elements.{All-head, All-tail}
use Rattle.cell_num.specs.Fingers.{sum_below}
use Rattle.cell_num.proofs.Pairs.{pairs_head, pairs_tail}
use Rattle.cell_num.proofs.Permutations.{count_cons}
use Rattle.row_trails.specs.Counts.{size_in}
use Rattle.row_trails.specs.Trails.{size, size_same}
use Rattle.row_state.specs.Gates.{sum_below_same}

one_if : (b : Bool) → b ≡ true → ◌≡◌ {A = ℕ} (if b then 1 else 0) 1
one_if b e = rw e refl

none_if : (b : Bool) → b ≡ false → ◌≡◌ {A = ℕ} (if b then 1 else 0) 0
none_if b e = rw e refl

bit_le : (a b : Bool) → (a ≡ true → b ≡ true) → (if a then 1 else 0) ≤ (if b then 1 else 0)
bit_le true b h = let e : ◌≡◌ {A = ℕ} (if b then 1 else 0) 1 = one_if b (h refl) in omega (arith, e)
bit_le false b h = omega arith

pub size_mono : (n : ℕ) (f g : ℕ → Bool) → ((v : ℕ) → v < n → f v ≡ true → g v ≡ true) → size n f ≤ size n g
size_mono zero f g h = omega arith
size_mono (suc n) f g h = omega (arith, size_mono n f g (λ v l. h v (omega (arith, l))), bit_le (f n) (g n) (h n (omega arith)))

-- in an empty set there is no number
pub size_zero : (n : ℕ) (f : ℕ → Bool) (v : ℕ) → size n f ≡ 0 → v < n → f v ≡ false
size_zero zero f v none within = absurd (omega (arith, within))
size_zero (suc n) f v none within =
    elim (cases_eq v n) [
      | inl e ↦ elim (cases_Bool (f n)) [
        | inl inside ↦ let bit : ◌≡◌ {A = ℕ} (if f n then 1 else 0) 1 = one_if (f n) inside in absurd (omega (arith, none, bit))
        | inr out ↦ ap f e ∙ out
      ]
      | inr other ↦ size_zero n f v (omega (arith, none)) (omega (arith, within, other))
    ]

-- one number more
pub size_with : (n k : ℕ) (f g : ℕ → Bool) → k < n → f k ≡ false → g k ≡ true → ((v : ℕ) → (v ≡ k → ⊥) → f v ≡ g v) → size n g ≡ size n f + 1
size_with zero k f g within out inside same = absurd (omega (arith, within))
size_with (suc n) k f g within out inside same =
    elim (cases_eq n k) [
      | inl e ↦
          let below : size n f ≡ size n g = size_same n f g (λ u l. same u (λ u_is. omega (arith, u_is, e, l))) in
          let no_bit : ◌≡◌ {A = ℕ} (if f n then 1 else 0) 0 = none_if (f n) (ap f e ∙ out) in
          let bit : ◌≡◌ {A = ℕ} (if g n then 1 else 0) 1 = one_if (g n) (ap g e ∙ inside) in
          omega (arith, below, no_bit, bit)
      | inr other ↦
          let below : size n g ≡ size n f + 1 = size_with n k f g (omega (arith, within, other)) out inside same in
          let bits : ◌≡◌ {A = ℕ} (if f n then 1 else 0) (if g n then 1 else 0) = rw (same n other) refl in
          omega (arith, below, bits)
    ]

abbrev pub with_number : ℕ → (ℕ → Bool) → ℕ → Bool
with_number k f v = (v == k) || f v

-- different numbers, each in the second set and none in the first
abbrev pub IsNew : ℕ → (ℕ → Bool) → (ℕ → Bool) → ℕ → Type 0
IsNew n f g k = (k < n) × (f k ≡ false) × (g k ≡ true)

pub size_adds : (n : ℕ) (ks : List ℕ) (f g : ℕ → Bool) → AllPairs (λ a b. a ≢ b) ks → All (IsNew n f g) ks → ((v : ℕ) → f v ≡ true → g v ≡ true) → size n f + length ks ≤ size n g
size_adds n [] f g differ new more = omega (arith, size_mono n f g (λ v l e. more v e))
size_adds n (k ∷ ks) f g differ new more =
    let here : IsNew n f g k = All-head (IsNew n f g) k ks new in
    let others : All (λ b. k ≢ b) ks = pairs_head (λ (a b : ℕ). a ≢ b) k ks differ in
    let rest : All (IsNew n f g) ks = All-tail (IsNew n f g) k ks new in
    let one : size n (with_number k f) ≡ size n f + 1 = size_with n k f (with_number k f) here.0 here.1 (rw (eq-eqb k k refl) refl) (λ v not_k. rw (ne_eqb v k not_k) refl) in
    let grown : size n (with_number k f) + length ks ≤ size n g =
    size_adds n ks (with_number k f) g (pairs_tail (λ (a b : ℕ). a ≢ b) k ks differ)
    (still_new ks others rest)
    (λ v e. elim (cases_eq v k) [
      | inl same ↦ ap g same ∙ here.2
      | inr not_k ↦ more v (sym (without v k f not_k) ∙ e)
    ]) in
    omega (arith, one, grown)
  where
    without : (v k : ℕ) (f : ℕ → Bool) → (v ≡ k → ⊥) → with_number k f v ≡ f v
    without v k f not_k = rw (ne_eqb v k not_k) refl

    still_new : (xs : List ℕ) → All (λ b. k ≢ b) xs → All (IsNew n f g) xs → All (IsNew n (with_number k f) g) xs
    still_new xs a b = λ i d l. ((b i d l).0, without _ k f (λ e. a i d l (sym e)) ∙ (b i d l).1, (b i d l).2)

sum_both : (f g : ℕ → ℕ) (n : ℕ) → sum_below (λ k. f k + g k) n ≡ sum_below f n + sum_below g n
sum_both f g zero = refl
sum_both f g (suc n) = omega (arith, sum_both f g n)

abbrev bit_at : ℕ → Bool → ℕ → ℕ
bit_at k b h = if (k == h) && b then 1 else 0

bit_other : (k h : ℕ) (b : Bool) → (k ≡ h → ⊥) → bit_at k b h ≡ 0
bit_other k h b other = ap (λ t. if t && b then 1 else 0) (ne_eqb k h other)

bit_here : (k h : ℕ) (b : Bool) → k ≡ h → bit_at k b h ≡ (if b then 1 else 0)
bit_here k h b e = ap (λ t. if t && b then 1 else 0) (eq-eqb k h e)

sum_beyond : (k : ℕ) (b : Bool) (n : ℕ) → n ≤ k → sum_below (bit_at k b) n ≡ 0
sum_beyond k b zero l = refl
sum_beyond k b (suc n) l = omega (arith, sum_beyond k b n (omega (arith, l)), bit_other k n b (λ e. omega (arith, e, l)))

sum_one : (k : ℕ) (b : Bool) (n : ℕ) → k < n → sum_below (bit_at k b) n ≡ (if b then 1 else 0)
sum_one k b zero l = absurd (omega (arith, l))
sum_one k b (suc n) l =
    elim (cases_eq k n) [
      | inl e ↦ omega (arith, sum_beyond k b n (omega (arith, e)), bit_here k n b e)
      | inr other ↦ omega (arith, sum_one k b n (omega (arith, l, other)), bit_other k n b other)
    ]

-- a set is as large as its parts in all classes
pub sum_classes : (n m : ℕ) (c : ℕ → ℕ) (o : ℕ → Bool) → ((u : ℕ) → u < m → c u < n) → sum_below (λ h. size_in m c o h) n ≡ size m o
sum_classes n zero c o below = all_zero n
  where
    all_zero : (k : ℕ) → sum_below (λ h. 0) k ≡ 0
    all_zero zero = refl
    all_zero (suc k) = omega (arith, all_zero k)
sum_classes n (suc m) c o below =
    omega (arith, sum_both (λ h. size_in m c o h) (bit_at (c m) (o m)) n, sum_classes n m c o (λ u l. below u (omega (arith, l))), sum_one (c m) (o m) n (below m (omega arith)))

-- elements counted by a number of each
pub sum_keys : {X : Type 0} (key : X → ℕ) (xs : List X) (n : ℕ) → All (λ x. key x < n) xs → sum_below (λ g. count_by (λ x. key x == g) xs) n ≡ length xs
sum_keys key [] n within = none n
  where
    none : (k : ℕ) → sum_below (λ g. 0) k ≡ 0
    none zero = refl
    none (suc k) = omega (arith, none k)
sum_keys key (x ∷ xs) n within =
    let parts : sum_below (λ g. count_by (λ y. key y == g) (x ∷ xs)) n ≡ sum_below (λ g. bit_at (key x) true g + count_by (λ y. key y == g) xs) n = sum_below_same (λ g. count_by (λ y. key y == g) (x ∷ xs)) (λ g. bit_at (key x) true g + count_by (λ y. key y == g) xs) n (λ g. count_cons (λ y. key y == g) x xs ∙ ap (λ m. m + count_by (λ y. key y == g) xs) (same_bit (key x == g))) in
    omega (arith, parts, sum_both (bit_at (key x) true) (λ g. count_by (λ y. key y == g) xs) n, sum_one (key x) true n (All-head (λ y. key y < n) x xs within), sum_keys key xs n (All-tail (λ y. key y < n) x xs within))
  where
    same_bit : (b : Bool) → ◌≡◌ {A = ℕ} (cond b 1 0) (if b && true then 1 else 0)
    same_bit true = refl
    same_bit false = refl
