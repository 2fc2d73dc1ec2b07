-- What stays of a sorted list where equal neighbours fall out in pairs.
use Rattle.std.proofs.Common.{ℕ, suc, ◌≡◌, ◌+◌, ◌%◌, Bool, true, false, cond, if◌then◌else◌, ℤ, pos, ◌-ℤ◌, ◌≤ℤ◌, ◌<ℤ◌, int_lt, List, [], ◌∷◌, Option, Some, None, get_or, IsPermutation, refl, subst, ◌++◌, append_assoc, arith}
use Rattle.std.specs.List.Sorted.{IsSorted}
use Rattle.std.specs.Ordering.{int_cmp, int_eq, is_lt}
use Rattle.std.proofs.lemmas.Int.{ints, by_lt_z}
use Rattle.gds_area.specs.EvenOdd.{odd_ones}
use Rattle.gds_area.specs.Sweep.{unpaired, PairsOff}
use Rattle.gds_area.proofs.Ascending.{same_is, is_same, is_other, other_is, not_both, times, tally_moved, like, Above, Up, Level, odd_is}

-- ---- sorted lists

in_order : (a b : ℤ) → is_lt (int_cmp b a) ≡ false → a ≤ℤ b
in_order a b e = by_lt_z b a (λ less. absurd (not_both (is_lt (int_cmp b a)) (first less) e)) (λ most. most)
  where
    first : b <ℤ a → is_lt (int_cmp b a) ≡ true
    first less = let h : int_lt b a ≡ true = grind (arith, ints) in rw h refl

tail_sorted : (x : ℤ) (xs : List ℤ) → IsSorted int_cmp (x ∷ xs) → IsSorted int_cmp xs
tail_sorted x xs up k d low lt = let e : suc k + 1 ≡ suc (k + 1) = omega arith in subst (λ j. is_lt (int_cmp (get_or (x ∷ xs) j d) (get_or xs k d)) ≡ false) e (up (suc k) d (omega arith) (omega arith))

level : (x : ℤ) (xs : List ℤ) → IsSorted int_cmp (x ∷ xs) → Level x xs
level x [] up = tt
level x (y ∷ ys) up = (in_order x y (up 0 x (omega arith) (omega arith)), level y ys (tail_sorted x (y ∷ ys) up))

-- ---- what stays ascends

stays_above : (c x : ℤ) (xs : List ℤ) → c <ℤ x → Level x xs → Above c (unpaired (Some x) xs)
stays_above c x [] h l = (h, tt)
stays_above c x (y ∷ []) h l = by (int_eq x y) refl
  where
    by : (b : Bool) → int_eq x y ≡ b → Above c (if b then [] else x ∷ y ∷ [])
    by true e = tt
    by false e = let o = is_other x y e in let m : x ≤ℤ y = l.0 in (h, (by_lt_z x y (λ less. less) (λ most. absurd (o (omega (arith, ints)))), tt))
stays_above c x (y ∷ z ∷ zs) h l = by (int_eq x y) refl (λ k. stays_above x y (z ∷ zs) k l.1) (λ k. stays_above c z zs k l.1.1)
  where
    by : (b : Bool) → int_eq x y ≡ b → (x <ℤ y → Above x (unpaired (Some y) (z ∷ zs))) → (c <ℤ z → Above c (unpaired (Some z) zs)) → Above c (if b then unpaired (Some z) zs else x ∷ unpaired (Some y) (z ∷ zs))
    by true e past gone = let m : x ≤ℤ y = l.0 in let n : y ≤ℤ z = l.1.0 in gone (omega (arith, ints))
    by false e past gone = let o = is_other x y e in let m : x ≤ℤ y = l.0 in (h, past (by_lt_z x y (λ less. less) (λ most. absurd (o (omega (arith, ints))))))

up_of : (low : ℤ) (zs : List ℤ) → Above low zs → Up zs
up_of low [] h = tt
up_of low (z ∷ zs) h = h.1

stays_up : (xs : List ℤ) → IsSorted int_cmp xs → Up (unpaired None xs)
stays_up [] up = tt
stays_up (x ∷ xs) up = up_of (below x) (unpaired (Some x) xs) (stays_above (below x) x xs (lower x) (level x xs up))
  where
    below : ℤ → ℤ
    below x = x -ℤ pos 1

    lower : (x : ℤ) → below x <ℤ x
    lower x = omega (arith, ints)

-- ---- and has the same parities

abbrev waiting : ℤ → Option ℤ → ℕ
waiting v None = 0
waiting v (Some c) = cond (int_eq v c) 1 0

stays_parity : (v : ℤ) (o : Option ℤ) (xs : List ℤ) → times v (unpaired o xs) % 2 ≡ (waiting v o + times v xs) % 2
stays_parity v None [] = refl
stays_parity v (Some c) [] = refl
stays_parity v None (x ∷ xs) = let rest = stays_parity v (Some x) xs in omega (arith, rest)
stays_parity v (Some c) (x ∷ xs) = by (int_eq c x) refl (stays_parity v None xs) (stays_parity v (Some x) xs)
  where
    by : (b : Bool) → int_eq c x ≡ b → times v (unpaired None xs) % 2 ≡ (0 + times v xs) % 2 → times v (unpaired (Some x) xs) % 2 ≡ (cond (int_eq v x) 1 0 + times v xs) % 2 → times v (if b then unpaired None xs else c ∷ unpaired (Some x) xs) % 2 ≡ (cond (int_eq v c) 1 0 + (cond (int_eq v x) 1 0 + times v xs)) % 2
    by true e gone past = let l = like (int_eq v) c x (is_same c x e) in omega (arith, gone, l)
    by false e gone past = omega (arith, past)

pub unpaired_is : (xs sorted : List ℤ) → IsPermutation xs sorted → IsSorted int_cmp sorted → unpaired None sorted ≡ odd_ones xs
unpaired_is xs sorted moved up =
    odd_is (unpaired None sorted) xs (stays_up sorted up) (λ v. omega (arith, stays_parity v None sorted, tally_moved (int_eq v) xs sorted moved))

-- ---- one number at a time

pub waits : (out : List ℤ) (x : ℤ) → PairsOff out None x out (Some x)
waits out x = record { more = λ rest. refl }

pub goes : (out : List ℤ) (c x : ℤ) → c ≡ x → PairsOff out (Some c) x out None
goes out c x e = record { more = λ rest. rw (same_is c x e) refl }

pub stays : (out new : List ℤ) (c x : ℤ) → new ≡ out ++ c ∷ [] → (c ≡ x → ⊥) → PairsOff out (Some c) x new (Some x)
stays out new c x e differ = record { more = λ rest. rw (e, other_is c x differ) (append_assoc out (c ∷ []) (unpaired (Some x) rest)) }
