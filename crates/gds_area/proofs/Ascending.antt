-- Ascending lists of numbers, and how often a list has a number.
use Rattle.std.proofs.Common.{ℕ, ◌≡◌, ◌+◌, ◌%◌, ◌≤◌, Bool, true, false, cond, ◌&&◌, ℤ, ◌≤ℤ◌, ◌<ℤ◌, int_le, int_lt, List, [], ◌∷◌, ◌++◌, map, IsPermutation, refl, sym, ap, ◌∙◌, arith, inl, inr}
use Rattle.std.specs.List.{filter, count_by}
use Rattle.std.specs.Ordering.{int_eq}
use Rattle.std.specs.Cmp.{signed_Decides}
use Rattle.std.proofs.lemmas.Int.{ints, by_lt_z}
use Rattle.std.proofs.lemmas.Bool.{cases_Bool}
use Rattle.std.proofs.lemmas.List.Sums.{sum_by-cons}
use Rattle.std.proofs.lemmas.List.Sorted.{sum_by-IsPermutation}
use Rattle.gds_area.specs.EvenOdd.{toggled, odd_ones, with_height}

-- ---- comparisons

pub less_is : (a b : ℤ) → a <ℤ b → int_lt a b ≡ true
less_is a b h = grind (arith, ints)

pub more_is : (a b : ℤ) → b ≤ℤ a → int_lt a b ≡ false
more_is a b h = grind (arith, ints)

pub below_is : (a b : ℤ) → a ≤ℤ b → int_le a b ≡ true
below_is a b h = grind (arith, ints)

pub above_is : (a b : ℤ) → b <ℤ a → int_le a b ≡ false
above_is a b h = grind (arith, ints)

pub same_is : (a b : ℤ) → a ≡ b → int_eq a b ≡ true
same_is a b h = (signed_Decides a b).1 h

pub other_is : (a b : ℤ) → (a ≡ b → ⊥) → int_eq a b ≡ false
other_is a b h = elim (cases_Bool (int_eq a b)) [ inl e ↦ absurd (h ((signed_Decides a b).0 e)) | inr e ↦ e ]

pub is_same : (a b : ℤ) → int_eq a b ≡ true → a ≡ b
is_same a b e = (signed_Decides a b).0 e

pub not_both : (b : Bool) → b ≡ true → b ≡ false → ⊥
not_both b e f = absurd cc

pub is_other : (a b : ℤ) → int_eq a b ≡ false → a ≡ b → ⊥
is_other a b e h = not_both (int_eq a b) (same_is a b h) e

-- one of two numbers is less, or they are the same
pub by_order : {P : Type 0} (a b : ℤ) → (a <ℤ b → P) → (b <ℤ a → P) → (a ≡ b → P) → P
by_order a b less more same = by_lt_z a b less (λ most. by_lt_z b a more (λ even. same (omega (arith, ints))))

-- ---- how many pass a test

abbrev pub tally : {X : Type 0} → (X → Bool) → List X → ℕ
tally p [] = 0
tally p (x ∷ xs) = cond (p x) 1 0 + tally p xs

pub tally_is : {X : Type 0} (p : X → Bool) (xs : List X) → tally p xs ≡ count_by p xs
tally_is p [] = refl
tally_is p (x ∷ xs) = ap (λ (n : ℕ). cond (p x) 1 0 + n) (tally_is p xs) ∙ sym (sum_by-cons (λ y. cond (p y) 1 0) x xs)

pub tally_moved : {X : Type 0} (p : X → Bool) (xs ys : List X) → IsPermutation xs ys → tally p ys ≡ tally p xs
tally_moved p xs ys moved = tally_is p ys ∙ (sum_by-IsPermutation (λ y. cond (p y) 1 0) xs ys moved ∙ sym (tally_is p xs))

pub tally_append : {X : Type 0} (p : X → Bool) (xs ys : List X) → tally p (xs ++ ys) ≡ tally p xs + tally p ys
tally_append p [] ys = omega arith
tally_append p (x ∷ xs) ys = omega (arith, tally_append p xs ys)

-- how often a list has a number
abbrev pub times : ℤ → List ℤ → ℕ
times x xs = tally (int_eq x) xs

pub tally_mapped : {X : Type 0} (f : X → ℤ) (p : X → Bool) (q : ℤ → Bool) (xs : List X) → tally q (map f (filter p xs)) ≡ tally (λ z. p z && q (f z)) xs
tally_mapped f p q [] = refl
tally_mapped {X} f p q (z ∷ zs) = by (p z) (tally_mapped f p q zs)
  where
    by : (b : Bool) → tally q (map f (filter p zs)) ≡ tally (λ z. p z && q (f z)) zs → tally q (map f (cond b (z ∷ filter p zs) (filter p zs))) ≡ cond (b && q (f z)) 1 0 + tally (λ z. p z && q (f z)) zs
    by true e = ap (λ (n : ℕ). cond (q (f z)) 1 0 + n) e
    by false e = omega (arith, e)

one_there : (x z : ℤ) → x ≡ z → ◌≡◌ {A = ℕ} (cond (int_eq x z) 1 0) 1
one_there x z e = rw (same_is x z e) refl

none_there : (x z : ℤ) → (x ≡ z → ⊥) → ◌≡◌ {A = ℕ} (cond (int_eq x z) 1 0) 0
none_there x z e = rw (other_is x z e) refl

pub like : (p : ℤ → Bool) (a b : ℤ) → a ≡ b → ◌≡◌ {A = ℕ} (cond (p a) 1 0) (cond (p b) 1 0)
like p a b e = ap (λ (z : ℤ). cond (p z) 1 0) e

-- ---- ascending lists

-- each number is above the one before, the first above low
abbrev pub Above : ℤ → List ℤ → Type 0
Above low [] = Unit {0}
Above low (z ∷ zs) = (low <ℤ z) × Above z zs

abbrev pub Up : List ℤ → Type 0
Up [] = Unit {0}
Up (z ∷ zs) = Above z zs

-- none is below the one before, the first not below low
abbrev pub Level : ℤ → List ℤ → Type 0
Level low [] = Unit {0}
Level low (z ∷ zs) = (low ≤ℤ z) × Level z zs

pub above_up : (low : ℤ) (zs : List ℤ) → Above low zs → Up zs
above_up low [] h = tt
above_up low (z ∷ zs) h = h.1

none_below : (low x : ℤ) (zs : List ℤ) → Above low zs → x ≤ℤ low → times x zs ≡ 0
none_below low x [] h below = refl
none_below low x (z ∷ zs) h below =
    let first : low <ℤ z = h.0 in
    let rest : times x zs ≡ 0 = none_below z x zs h.1 (omega (arith, ints)) in
    let here : ◌≡◌ {A = ℕ} (cond (int_eq x z) 1 0) 0 = none_there x z (λ e. omega (arith, ints)) in
    omega (arith, rest, here)

pub once : (zs : List ℤ) (x : ℤ) → Up zs → times x zs ≤ 1
once [] x h = omega arith
once (z ∷ zs) x h =
    by_order x z
    (λ less. let none : times x zs ≡ 0 = none_below z x zs h (omega (arith, ints)) in let here : ◌≡◌ {A = ℕ} (cond (int_eq x z) 1 0) 0 = none_there x z (λ e. omega (arith, ints)) in omega (arith, none, here))
    (λ more. let rest : times x zs ≤ 1 = once zs x (above_up z zs h) in let here : ◌≡◌ {A = ℕ} (cond (int_eq x z) 1 0) 0 = none_there x z (λ e. omega (arith, ints)) in omega (arith, rest, here))
    (λ same. let none : times x zs ≡ 0 = none_below z x zs h (omega (arith, ints)) in let here : ◌≡◌ {A = ℕ} (cond (int_eq x z) 1 0) 1 = one_there x z same in omega (arith, none, here))

-- ascending lists that have the same numbers are the same
pub same_lists : (xs ys : List ℤ) → Up xs → Up ys → ((x : ℤ) → times x xs ≡ times x ys) → xs ≡ ys
same_lists [] [] hx hy e = refl
same_lists [] (b ∷ bs) hx hy e = let here : ◌≡◌ {A = ℕ} (cond (int_eq b b) 1 0) 1 = one_there b b refl in absurd (omega (arith, here, e b))
same_lists (a ∷ cs) [] hx hy e = let here : ◌≡◌ {A = ℕ} (cond (int_eq a a) 1 0) 1 = one_there a a refl in absurd (omega (arith, here, e a))
same_lists (a ∷ cs) (b ∷ bs) hx hy e =
    by_order a b
    (λ less. absurd (first_less a b cs bs less hy (e a)))
    (λ more. absurd (first_less b a bs cs more hx (sym (e b))))
    (λ same. both same (same_lists cs bs (above_up a cs hx) (above_up b bs hy) (λ x. omega (arith, e x, like (int_eq x) a b same))))
  where
    first_less : (a b : ℤ) (cs bs : List ℤ) → a <ℤ b → Above b bs → times a (a ∷ cs) ≡ times a (b ∷ bs) → ⊥
    first_less a b cs bs less hy e =
        let here : ◌≡◌ {A = ℕ} (cond (int_eq a a) 1 0) 1 = one_there a a refl in
        let there : ◌≡◌ {A = ℕ} (cond (int_eq a b) 1 0) 0 = none_there a b (λ e. omega (arith, ints)) in
        let none : times a bs ≡ 0 = none_below b a bs hy (omega (arith, ints)) in
        omega (arith, here, there, none, e)

    both : a ≡ b → cs ≡ bs → a ∷ cs ≡ b ∷ bs
    both p q = rw (p, q) refl

-- ---- the numbers that a list has an odd number of times

toggled_above : (low a : ℤ) (zs : List ℤ) → low <ℤ a → Above low zs → Above low (toggled a zs)
toggled_above low a [] h r = (h, tt)
toggled_above low a (z ∷ zs) h r =
    by_order a z
    (λ less. rw (less_is a z less) (h, (less, r.1)))
    (λ more. rw (more_is a z (omega (arith, ints)), less_is z a more) (r.0, toggled_above z a zs more r.1))
    (λ same. rw (more_is a z (omega (arith, ints)), more_is z a (omega (arith, ints))) (lower low z zs r.0 r.1))
  where
    lower : (low z : ℤ) (zs : List ℤ) → low <ℤ z → Above z zs → Above low zs
    lower low z [] l r = tt
    lower low z (y ∷ ys) l r = let s : z <ℤ y = r.0 in (omega (arith, ints), r.1)

toggled_up : (a : ℤ) (zs : List ℤ) → Up zs → Up (toggled a zs)
toggled_up a [] r = tt
toggled_up a (z ∷ zs) r =
    by_order a z
    (λ less. rw (less_is a z less) (less, r))
    (λ more. rw (more_is a z (omega (arith, ints)), less_is z a more) (toggled_above z a zs more r))
    (λ same. rw (more_is a z (omega (arith, ints)), more_is z a (omega (arith, ints))) (above_up z zs r))

toggled_parity : (p : ℤ → Bool) (a : ℤ) (zs : List ℤ) → tally p (toggled a zs) % 2 ≡ (cond (p a) 1 0 + tally p zs) % 2
toggled_parity p a [] = refl
toggled_parity p a (z ∷ zs) =
    by_order a z
    (λ less. rw (less_is a z less) refl)
    (λ more. rw (more_is a z (omega (arith, ints)), less_is z a more) (let rest = toggled_parity p a zs in omega (arith, rest)))
    (λ same. rw (more_is a z (omega (arith, ints)), more_is z a (omega (arith, ints))) (let e = like p a z same in omega (arith, e)))

pub odd_up : (xs : List ℤ) → Up (odd_ones xs)
unfolding odd_ones
odd_up [] = tt
odd_up (x ∷ xs) = toggled_up x (odd_ones xs) (odd_up xs)

pub odd_parity : (p : ℤ → Bool) (xs : List ℤ) → tally p (odd_ones xs) % 2 ≡ tally p xs % 2
unfolding odd_ones
odd_parity p [] = refl
odd_parity p (y ∷ ys) = let here = toggled_parity p y (odd_ones ys) in let rest = odd_parity p ys in omega (arith, here, rest)

-- an ascending list with the same parities is that list
pub odd_is : (zs xs : List ℤ) → Up zs → ((x : ℤ) → times x zs % 2 ≡ times x xs % 2) → zs ≡ odd_ones xs
odd_is zs xs up e = same_lists zs (odd_ones xs) up (odd_up xs) (λ x. omega (arith, e x, odd_parity (int_eq x) xs, once zs x up, once (odd_ones xs) x (odd_up xs)))

pub odd_same : (xs ys : List ℤ) → ((x : ℤ) → times x xs % 2 ≡ times x ys % 2) → odd_ones xs ≡ odd_ones ys
odd_same xs ys e = odd_is (odd_ones xs) ys (odd_up xs) (λ x. omega (arith, e x, odd_parity (int_eq x) xs))

pub odd_again : (xs ys : List ℤ) → odd_ones (odd_ones xs ++ ys) ≡ odd_ones (xs ++ ys)
odd_again xs ys = odd_same (odd_ones xs ++ ys) (xs ++ ys) (λ x. omega (arith, odd_parity (int_eq x) xs, tally_append (int_eq x) (odd_ones xs) ys, tally_append (int_eq x) xs ys))

-- ---- heights

height_above : (low a : ℤ) (zs : List ℤ) → low <ℤ a → Above low zs → Above low (with_height a zs)
height_above low a [] h r = (h, tt)
height_above low a (z ∷ zs) h r =
    by_order a z
    (λ less. rw (less_is a z less) (h, (less, r.1)))
    (λ more. rw (more_is a z (omega (arith, ints)), less_is z a more) (r.0, height_above z a zs more r.1))
    (λ same. rw (more_is a z (omega (arith, ints)), more_is z a (omega (arith, ints))) r)

pub height_up : (a : ℤ) (zs : List ℤ) → Up zs → Up (with_height a zs)
height_up a [] r = tt
height_up a (z ∷ zs) r =
    by_order a z
    (λ less. rw (less_is a z less) (less, r))
    (λ more. rw (more_is a z (omega (arith, ints)), less_is z a more) (height_above z a zs more r))
    (λ same. rw (more_is a z (omega (arith, ints)), more_is z a (omega (arith, ints))) r)

-- what the list has with a number put in
pub record Has (x a : ℤ) (zs : List ℤ) : Type 0 where
  pub new : cond (int_eq x a) 1 0 ≤ times x (with_height a zs)
  pub old : times x zs ≤ times x (with_height a zs)
  pub no_more : times x (with_height a zs) ≤ cond (int_eq x a) 1 0 + times x zs

pub height_has : (x a : ℤ) (zs : List ℤ) → Has x a zs
height_has x a [] = record { new = omega arith; old = omega arith; no_more = omega arith }
height_has x a (z ∷ zs) =
    by_order a z
    (λ less. let e : times x (with_height a (z ∷ zs)) ≡ cond (int_eq x a) 1 0 + (cond (int_eq x z) 1 0 + times x zs) = rw (less_is a z less) refl in has (omega (arith, e)) (omega (arith, e)) (omega (arith, e)))
    (λ more. let e : times x (with_height a (z ∷ zs)) ≡ cond (int_eq x z) 1 0 + times x (with_height a zs) = rw (more_is a z (omega (arith, ints)), less_is z a more) refl in let h = height_has x a zs in has (omega (arith, e, h.new)) (omega (arith, e, h.old)) (omega (arith, e, h.no_more)))
    (λ same. let e : times x (with_height a (z ∷ zs)) ≡ cond (int_eq x z) 1 0 + times x zs = rw (more_is a z (omega (arith, ints)), more_is z a (omega (arith, ints))) refl in let l = like (int_eq x) a z same in has (omega (arith, e, l)) (omega (arith, e, l)) (omega (arith, e, l)))
  where
    has : cond (int_eq x a) 1 0 ≤ times x (with_height a (z ∷ zs)) → times x (z ∷ zs) ≤ times x (with_height a (z ∷ zs)) → times x (with_height a (z ∷ zs)) ≤ cond (int_eq x a) 1 0 + times x (z ∷ zs) → Has x a (z ∷ zs)
    has p q r = record { new = p; old = q; no_more = r }
