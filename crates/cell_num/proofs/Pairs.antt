-- Lists in which each element is related to every later one, and lists with one element a number.
use Rattle.std.proofs.Common.{ℕ, zero, suc, ◌≡◌, ◌≢◌, ◌+◌, ◌-◌, ◌<◌, ◌≤◌, ◌++◌, ◌==◌, Bool, true, false, cond, List, [], ◌∷◌, length, get_or, inl, inr, refl, sym, subst, arith, All, AllPairs, Any, Contains, count_by, IsPermutation, map, slice_get, Some}
use Rattle.std.specs.List.{list_any, flat_map}
use Rattle.std.specs.List.Sorted.{IsSortedBy}
use Rattle.std.proofs.lemmas.Bool.{cases_Bool, cases_eq, eq-eqb, ne_eqb}
use Rattle.std.proofs.lemmas.List.Elements.{All-nil, All-head, All-tail, All-append, All-contains, Contains-append_left, Contains-append_right, Contains-append_cases}
use Rattle.std.proofs.lemmas.List.Kept.{AllPairs-cons}
use Rattle.std.proofs.lemmas.List.Sums.{sum_by-append, sum_by_push}
use Rattle.std.proofs.lemmas.List.Sorted.{sum_by-IsPermutation}
use Rattle.cell_num.proofs.Permutations.{count_cons}
use Rattle.std.proofs.lemmas.Option.{slice_get_within, get_or_from_slice_get}
use Rattle.cell_num.proofs.Lists.{all_imply, all_one, all_map, all_flat, contains_none, contains_cons, contains_here, contains_there, all_from_contains}

-- an element with a fact, from `Any` and to it
pub record Some' {X : Type 0} (P : X → Type 0) (xs : List X) : Type 0 where
  pub it : X
  pub there : Contains xs it
  pub holds : P it

pub some_from_any : {X : Type 0} (P : X → Type 0) (xs : List X) → Any P xs → Some' P xs
some_from_any P xs (k, x, short, is, holds) = record { it = x; there = (k, short, is); holds = holds }

pub any_from_some : {X : Type 0} (P : X → Type 0) (xs : List X) → Some' P xs → Any P xs
any_from_some P xs s = (s.there.0, s.it, s.there.1, s.there.2, s.holds)

pub any_at : {X : Type 0} (P : X → Type 0) (xs : List X) (x : X) → Contains xs x → P x → Any P xs
any_at P xs x there holds = any_from_some P xs (record { it = x; there = there; holds = holds })

pub any_append_left : {X : Type 0} (P : X → Type 0) (xs ys : List X) → Any P xs → Any P (xs ++ ys)
any_append_left P xs ys h = let s : Some' P xs = some_from_any P xs h in any_at P (xs ++ ys) s.it (Contains-append_left xs ys s.it s.there) s.holds

-- what a test finds
pub test_finds : {X : Type 0} (p : X → Bool) (xs : List X) → list_any p xs ≡ true → Some' (λ x. p x ≡ true) xs
test_finds p [] h = absurd cc
test_finds {X} p (x ∷ xs) h =
    elim (cases_Bool (p x)) [
      | inl here ↦ record { it = x; there = contains_here x xs; holds = here }
      | inr other ↦ more (test_finds p xs (rest other h))
    ]
  where
    rest : p x ≡ false → list_any p (x ∷ xs) ≡ true → list_any p xs ≡ true
    rest other h = grind (arith, other, h)

    more : Some' (λ x. p x ≡ true) xs → Some' (λ x. p x ≡ true) (x ∷ xs)
    more s = record { it = s.it; there = contains_there x xs s.it s.there; holds = s.holds }

pub test_there : {X : Type 0} (p : X → Bool) (xs : List X) (x : X) → Contains xs x → p x ≡ true → list_any p xs ≡ true
test_there p [] x there h = absurd (contains_none x there)
test_there {X} p (y ∷ ys) x there h =
    elim (contains_cons y ys x there) [
      | inl same ↦ first (subst (λ z. p z ≡ true) (sym same) h)
      | inr rest ↦ later (test_there p ys x rest h)
    ]
  where
    first : p y ≡ true → list_any p (y ∷ ys) ≡ true
    first e = grind (arith, e)

    later : list_any p ys ≡ true → list_any p (y ∷ ys) ≡ true
    later e = grind (arith, e)

pub test_fails : {X : Type 0} (p : X → Bool) (xs : List X) (x : X) → list_any p xs ≡ false → Contains xs x → p x ≡ false
test_fails p xs x h there =
    elim (cases_Bool (p x)) [
      | inl yes' ↦ absurd (let found : list_any p xs ≡ true = test_there p xs x there yes' in cc)
      | inr no' ↦ no'
    ]

-- pairs of a list by recursion
pub pairs_tail : {X : Type 0} (R : X → X → Type 0) (x : X) (xs : List X) → AllPairs R (x ∷ xs) → AllPairs R xs
pairs_tail R x xs h = λ i j d less short. h (suc i) (suc j) d (omega (arith, less)) (omega (arith, short))

pub pairs_head : {X : Type 0} (R : X → X → Type 0) (x : X) (xs : List X) → AllPairs R (x ∷ xs) → All (R x) xs
pairs_head R x xs h = λ k d short. h 0 (suc k) d (omega arith) (omega (arith, short))

-- without an element in the middle
pub pairs_without : {X : Type 0} (R : X → X → Type 0) (xs : List X) (w : X) (ys : List X) → AllPairs R (xs ++ w ∷ ys) → AllPairs R (xs ++ ys)
pairs_without R [] w ys h = pairs_tail R w ys h
pairs_without {X} R (x ∷ xs) w ys h =
    AllPairs-cons R x (xs ++ ys) (all_from_contains (R x) (xs ++ ys) (λ z there. All-contains (R x) (xs ++ w ∷ ys) z (pairs_head R x (xs ++ w ∷ ys) h) (still z there)))
    (pairs_without R xs w ys (pairs_tail R x (xs ++ w ∷ ys) h))
  where
    still : (z : X) → Contains (xs ++ ys) z → Contains (xs ++ w ∷ ys) z
    still z there = elim (Contains-append_cases xs ys z there) [ inl before ↦ Contains-append_left xs (w ∷ ys) z before | inr behind ↦ Contains-append_right xs (w ∷ ys) z (contains_there w ys z behind) ]

-- an element and one behind it
pub pairs_behind : {X : Type 0} (R : X → X → Type 0) (xs : List X) (w : X) (ys : List X) (z : X) → AllPairs R (xs ++ w ∷ ys) → Contains ys z → R w z
pairs_behind R [] w ys z h there = All-contains (R w) ys z (pairs_head R w ys h) there
pairs_behind R (x ∷ xs) w ys z h there = pairs_behind R xs w ys z (pairs_tail R x (xs ++ w ∷ ys) h) there

-- one element a number
abbrev pub OneEach : {X : Type 0} → (X → ℕ) → List X → Type 0
OneEach key xs = (n : ℕ) → count_by (λ x. key x == n) xs ≤ 1

pub one_each_permutation : {X : Type 0} (key : X → ℕ) (xs ys : List X) → IsPermutation xs ys → OneEach key xs → OneEach key ys
one_each_permutation key xs ys p h n = omega (arith, h n, sum_by-IsPermutation (λ x. cond (key x == n) 1 0) xs ys p)

pub count_there : {X : Type 0} (p : X → Bool) (xs : List X) (x : X) → Contains xs x → p x ≡ true → 0 < count_by p xs
count_there p [] x there h = absurd (contains_none x there)
count_there p (y ∷ ys) x there h =
    elim (contains_cons y ys x there) [
      | inl same ↦ let one : ◌≡◌ {A = ℕ} (cond (p y) 1 0) 1 = rw (subst (λ z. p z ≡ true) (sym same) h) refl in omega (arith, one, count_cons p y ys)
      | inr rest ↦ omega (arith, count_there p ys x rest h, count_cons p y ys)
    ]

-- elements of the two parts have different numbers
pub parts_differ : {X : Type 0} (key : X → ℕ) (xs ys : List X) (a b : X) → OneEach key (xs ++ ys) → Contains xs a → Contains ys b → key a ≢ key b
parts_differ key xs ys a b h ha hb e =
    omega (arith, h (key b), sum_by-append (λ x. cond (key x == key b) 1 0) xs ys, count_there (λ x. key x == key b) xs a ha (eq-eqb (key a) (key b) e), count_there (λ x. key x == key b) ys b hb (eq-eqb (key b) (key b) refl))

pub one_each_rest : {X : Type 0} (key : X → ℕ) (x : X) (xs : List X) → OneEach key (x ∷ xs) → OneEach key xs
one_each_rest key x xs h n = omega (arith, h n, count_cons (λ y. key y == n) x xs)

-- elements of one number are one
pub one_each_same : {X : Type 0} (key : X → ℕ) (xs : List X) (a b : X) → OneEach key xs → Contains xs a → Contains xs b → key a ≡ key b → a ≡ b
one_each_same key [] a b h ha hb e = absurd (contains_none a ha)
one_each_same key (x ∷ xs) a b h ha hb e =
    elim (contains_cons x xs a ha) [
      | inl a_first ↦ elim (contains_cons x xs b hb) [
        | inl b_first ↦ cc
        | inr b_rest ↦ absurd (parts_differ key (x ∷ []) xs a b h (subst (λ z. Contains (x ∷ []) z) a_first (contains_here x [])) b_rest e)
      ]
      | inr a_rest ↦ elim (contains_cons x xs b hb) [
        | inl b_first ↦ absurd (parts_differ key (x ∷ []) xs b a h (subst (λ z. Contains (x ∷ []) z) b_first (contains_here x [])) a_rest (sym e))
        | inr b_rest ↦ one_each_same key xs a b (one_each_rest key x xs h) a_rest b_rest e
      ]
    ]

pub none_counted : {X : Type 0} (p : X → Bool) (xs : List X) → list_any p xs ≡ false → count_by p xs ≡ 0
none_counted p [] e = refl
none_counted {X} p (x ∷ xs) e =
    elim (cases_Bool (p x)) [
      | inl here ↦ absurd (first here)
      | inr other ↦
          let nothing : ◌≡◌ {A = ℕ} (cond (p x) 1 0) 0 = rw other refl in
          omega (arith, nothing, count_cons p x xs, none_counted p xs (rest other))
    ]
  where
    first : p x ≡ true → ⊥
    first here = grind (arith, here, e)

    rest : p x ≡ false → list_any p xs ≡ false
    rest other = grind (arith, other, e)

-- a number that is not there may be added
pub one_each_push : {X : Type 0} (key : X → ℕ) (xs : List X) (x : X) → OneEach key xs → list_any (λ z. key z == key x) xs ≡ false → OneEach key (xs ++ x ∷ [])
one_each_push key xs x h new n =
    elim (cases_eq (key x) n) [
      | inl same ↦
          let none : count_by (λ z. key z == n) xs ≡ 0 = subst (λ m. count_by (λ z. key z == m) xs ≡ 0) same (none_counted (λ z. key z == key x) xs new) in
          let one : ◌≡◌ {A = ℕ} (cond (key x == n) 1 0) 1 = rw (eq-eqb (key x) n same) refl in
          omega (arith, none, one, sum_by_push (λ z. cond (key z == n) 1 0) xs x)
      | inr other ↦
          let nothing : ◌≡◌ {A = ℕ} (cond (key x == n) 1 0) 0 = rw (ne_eqb (key x) n other) refl in
          omega (arith, h n, nothing, sum_by_push (λ z. cond (key z == n) 1 0) xs x)
    ]

pub pairs_differ : {X : Type 0} (key : X → ℕ) (xs : List X) → OneEach key xs → AllPairs (λ a b. key a ≢ key b) xs
pairs_differ key [] h = λ i j d less short. absurd (omega (arith, short))
pairs_differ key (x ∷ xs) h =
    AllPairs-cons (λ a b. key a ≢ key b) x xs
    (all_from_contains (λ b. key x ≢ key b) xs (λ b there. parts_differ key (x ∷ []) xs x b h (contains_here x []) there))
    (pairs_differ key xs (one_each_rest key x xs h))

-- a sorted list with one element a number is in strict order
pub pairs_from_sorted : {X : Type 0} (lt : X → X → Bool) (key : X → ℕ) (R : X → X → Type 0) → ((a b c : X) → R a b → R b c → R a c) → ((a b : X) → lt b a ≡ false → key a ≢ key b → R a b) → (xs : List X) → IsSortedBy lt xs → OneEach key xs → AllPairs R xs
pairs_from_sorted {X} lt key R trans step xs sorted one = far
  where
    next : (k : ℕ) (d : X) → k + 1 < length xs → R (get_or xs k d) (get_or xs (k + 1) d)
    next k d short = step (get_or xs k d) (get_or xs (k + 1) d) (sorted k d (omega arith) short) (pairs_differ key xs one k (k + 1) d (omega arith) short)

    upto : (i n : ℕ) (d : X) → i + n + 1 < length xs → R (get_or xs i d) (get_or xs (i + n + 1) d)
    upto i zero d short = subst (λ m. R (get_or xs i d) (get_or xs m d)) (let e : i + 1 ≡ i + 0 + 1 = omega arith in e) (next i d (omega (arith, short)))
    upto i (suc n) d short = trans (get_or xs i d) (get_or xs (i + n + 1) d) (get_or xs (i + suc n + 1) d) (upto i n d (omega (arith, short))) (subst (λ m. R (get_or xs (i + n + 1) d) (get_or xs m d)) (let e : i + n + 1 + 1 ≡ i + suc n + 1 = omega arith in e) (next (i + n + 1) d (omega (arith, short))))

    far : (i j : ℕ) (d : X) → i < j → j < length xs → R (get_or xs i d) (get_or xs j d)
    far i j d less short = subst (λ m. R (get_or xs i d) (get_or xs m d)) (let e : i + (j - i - 1) + 1 ≡ j = omega (arith, less) in e) (upto i (j - i - 1) d (omega (arith, less, short)))

pub pairs_none : {X : Type 0} (R : X → X → Type 0) → AllPairs R []
pairs_none R i j d l m = absurd (omega (arith, m))

pub pairs_one : {X : Type 0} (R : X → X → Type 0) (x : X) → AllPairs R (x ∷ [])
pairs_one R x = AllPairs-cons R x [] (All-nil (R x)) (pairs_none R)

pub pairs_two : {X : Type 0} (R : X → X → Type 0) (x y : X) → R x y → AllPairs R (x ∷ y ∷ [])
pairs_two R x y h = AllPairs-cons R x (y ∷ []) (all_one (R x) y h) (pairs_one R y)

pub pairs_at : {X : Type 0} (R : X → X → Type 0) (xs : List X) (i j : ℕ) (x y : X) → AllPairs R xs → i < j → slice_get xs i ≡ Some x → slice_get xs j ≡ Some y → R x y
pairs_at R xs i j x y h l is js = rw (sym (get_or_from_slice_get xs i x x is), sym (get_or_from_slice_get xs j y x js)) (h i j x l (slice_get_within xs j y js))

-- each of xs stands so to each of ys
pub cross : {X : Type 0} (R : X → X → Type 0) (P Q : X → Type 0) (xs ys : List X) → All P xs → All Q ys → ((a b : X) → P a → Q b → R a b) → All (λ a. All (R a) ys) xs
cross R P Q xs ys h k r i d l j e m = r _ _ (h i d l) (k j e m)

pub pairs_append : {X : Type 0} (R : X → X → Type 0) (xs ys : List X) → AllPairs R xs → AllPairs R ys → All (λ a. All (R a) ys) xs → AllPairs R (xs ++ ys)
pairs_append R [] ys h k c = k
pairs_append R (x ∷ xs) ys h k c =
    AllPairs-cons R x (xs ++ ys) (All-append (R x) xs ys (pairs_head R x xs h) (All-head (λ a. All (R a) ys) x xs c)) (pairs_append R xs ys (pairs_tail R x xs h) k (All-tail (λ a. All (R a) ys) x xs c))

pub pairs_map : {X Y : Type 0} (S : X → X → Type 0) (P : X → Type 0) (R : Y → Y → Type 0) (g : X → Y) (xs : List X) → ((x y : X) → P x → P y → S x y → R (g x) (g y)) → All P xs → AllPairs S xs → AllPairs R (map g xs)
pairs_map S P R g [] f p h = pairs_none R
pairs_map S P R g (x ∷ xs) f p h =
    AllPairs-cons R (g x) (map g xs)
    (all_map (λ y. P y × S x y) (R (g x)) g xs (λ y (q, s). f x y (All-head P x xs p) q s) (λ i d l. (All-tail P x xs p i d l, pairs_head S x xs h i d l)))
    (pairs_map S P R g xs f (All-tail P x xs p) (pairs_tail S x xs h))

-- where x stands so to each later one, what x gives stands so to what the later ones give
pub pairs_flat : {X Y : Type 0} (S : X → X → Type 0) (Q : X → Type 0) (R : Y → Y → Type 0) (T : X → Y → Type 0) (g : X → List Y) (xs : List X) → ((x : X) → Q x → All (T x) (g x)) → ((x : X) → Q x → AllPairs R (g x)) → ((x y : X) (a b : Y) → Q x → Q y → S x y → T x a → T y b → R a b) → All Q xs → AllPairs S xs → AllPairs R (flat_map g xs)
pairs_flat S Q R T g [] t h r q s = pairs_none R
pairs_flat {X} {Y} S Q R T g (x ∷ xs) t h r q s =
    let here : Q x = All-head Q x xs q in
    let rest : All Q xs = All-tail Q x xs q in
    pairs_append R (g x) (flat_map g xs) (h x here) (pairs_flat S Q R T g xs t h r rest (pairs_tail S x xs s))
    (cross R (T x) (λ b. (y : X) × Q y × S x y × T y b) (g x) (flat_map g xs) (t x here)
    (all_flat (λ y. Q y × S x y) (λ b. (y : X) × Q y × S x y × T y b) g xs (λ y (p, u). all_imply (T y) (λ b. (y : X) × Q y × S x y × T y b) (g y) (λ b v. (y, p, u, v)) (t y p)) (λ i d l. (rest i d l, pairs_head S x xs s i d l)))
    (λ a b v (y, p, u, w). r x y a b here p u v w))
