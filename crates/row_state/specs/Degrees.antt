-- What a row's places say of the fingers in them: odd degrees and empty places.
use Rattle.std.proofs.Common.{ℕ, zero, suc, ◌≡◌, ◌+◌, ◌-◌, ◌<◌, Bool, cond, true, false, not, ◌==◌, List, [], ◌∷◌}
use Rattle.std.proofs.Common.{length, Option, Some, None, option_map, refl, sym, ap, arith, IsPermutation, ◌∙◌, sum_by}
use Rattle.std.proofs.Common.{get_or}
use Rattle.std.specs.List.{cons_option}
use Rattle.std.proofs.lemmas.List.{length-map}
use Rattle.std.proofs.lemmas.List.Sums.{sum_by-cons}
use Rattle.std.proofs.lemmas.List.Sorted.{sum_by-IsPermutation, length_permutation}
use Rattle.cell_num.specs.declared.finger.Row.{Row}
use Rattle.cell_num.specs.declared.finger.Finger.{Finger}
use Rattle.row_model.specs.declared.column.Placed.{Placed}
use Rattle.row_model.specs.declared.column.Column.{Column}
use Rattle.cell_num.specs.Fingers.{on_gate, sum_below}
use Rattle.row_model.specs.Arrangement.{place, fingers_in}
use Rattle.row_model.specs.Gaps.{left_net, right_net}
use Rattle.row_trails.specs.Trails.{empties, odd, places}
use Rattle.row_state.specs.Parity.{parity, ends_on}
use Rattle.row_state.specs.Gates.{most, one_differs, OneDiffers, gate_here, gate_other}

abbrev pub bit_of : Bool → ℕ
bit_of b = cond b 1 0

abbrev pub degree : ℕ → List Finger → ℕ
degree u fs = sum_by (ends_on u) fs

pub parity_bit : (b : Bool) (n : ℕ) → parity (bit_of b + n) ≡ cond b (not (parity n)) (parity n)
parity_bit true n = let e : 1 + n ≡ suc n = omega arith in ap parity e
parity_bit false n = let e : 0 + n ≡ n = omega arith in ap parity e

both_ways : (a b c : Bool) → cond a (not (cond b (not c) c)) (cond b (not c) c)
    ≡ cond b (not (cond a (not c) c)) (cond a (not c) c)
both_ways true true c = refl
both_ways true false c = refl
both_ways false true c = refl
both_ways false false c = refl

step_parity : (a b : Bool) (n : ℕ) → cond a (not (cond b (not (parity n)) (parity n)))
    (cond b (not (parity n)) (parity n)) ≡ parity (bit_of a + bit_of b + n)
step_parity true b n = let e : 1 + bit_of b + n ≡ suc (bit_of b + n) = omega arith in
    sym (ap parity e ∙ ap not (parity_bit b n))
step_parity false b n = let e : 0 + bit_of b + n ≡ bit_of b + n = omega arith in sym (ap parity e ∙ parity_bit b n)

placed_parity : (x : Finger) (flipped : Bool) (u n : ℕ) (c : Bool) → c ≡ parity n
    → (let y : Placed = record { finger = x; flipped = flipped } in
    cond (u == (left_net y).0) (not (cond (u == (right_net y).0) (not c) c)) (cond (u == (right_net y).0) (not c) c))
    ≡ parity (ends_on u x + n)
placed_parity x true u n c e = both_ways (u == x.hi.0) (u == x.lo.0) c
    ∙ ap (λ z. cond (u == x.lo.0) (not (cond (u == x.hi.0) (not z) z)) (cond (u == x.hi.0) (not z) z)) e
    ∙ step_parity (u == x.lo.0) (u == x.hi.0) n
placed_parity x false u n c e = ap (λ z. cond (u == x.lo.0) (not (cond (u == x.hi.0) (not z) z))
    (cond (u == x.hi.0) (not z) z)) e ∙ step_parity (u == x.lo.0) (u == x.hi.0) n

unfoldable pub fingers_of : List (Option Placed) → List Finger
fingers_of [] = []
fingers_of (None ∷ xs) = fingers_of xs
fingers_of (Some x ∷ xs) = x.finger ∷ fingers_of xs

-- the nets that a row meets an odd number of times are those of odd degree
pub odd_degree : (xs : List (Option Placed)) (u : ℕ) → odd xs u ≡ parity (degree u (fingers_of xs))
unfolding fingers_of
odd_degree [] u = refl
odd_degree (None ∷ xs) u = odd_degree xs u
odd_degree (Some x ∷ xs) u = placed_parity x.finger x.flipped u (degree u (fingers_of xs)) (odd xs u) (odd_degree xs u)
    ∙ ap parity (sym (sum_by-cons (ends_on u) x.finger (fingers_of xs)))

fingers_of_cons : (row : Row) (x : Option Placed) (xs : List (Option Placed)) (fs : List Finger) → fingers_of xs ≡ fs
    → fingers_of (x ∷ xs) ≡ cons_option (option_map (λ (y : Placed). y.finger) x) fs
unfolding fingers_of
fingers_of_cons row None xs fs e = e
fingers_of_cons row (Some x) xs fs e = ap (λ gs. x.finger ∷ gs) e

pub fingers_of_places : (row : Row) (cs : List Column) → fingers_of (places row cs) ≡ fingers_in row cs
unfolding fingers_of
fingers_of_places row [] = refl
fingers_of_places row (c ∷ cs) = fingers_of_cons row (place row c) (places row cs) (fingers_in row cs)
    (fingers_of_places row cs)

pub odd_places : (row : Row) (cs : List Column) (left : List Finger) (u : ℕ) → IsPermutation left (fingers_in row cs)
    → odd (places row cs) u ≡ parity (degree u left)
odd_places row cs left u h = odd_degree (places row cs) u ∙ ap (λ fs. parity (degree u fs)) (fingers_of_places row cs)
    ∙ ap parity (sum_by-IsPermutation (ends_on u) left (fingers_in row cs) h)

pub empty_and_full : (xs : List (Option Placed)) → empties xs + length (fingers_of xs) ≡ length xs
unfolding fingers_of
empty_and_full [] = omega arith
empty_and_full (None ∷ xs) = omega (arith, empty_and_full xs)
empty_and_full (Some x ∷ xs) = omega (arith, empty_and_full xs)

no_fingers : (nets : ℕ) → sum_below (λ g. on_gate g []) nets ≡ 0
no_fingers zero = refl
no_fingers (suc n) = omega (arith, no_fingers n)

-- the sum over the gates of the fingers on them is the number of fingers
pub all_on_gates : (fs : List Finger) (nets : ℕ)
    → ((i : ℕ) (d : Finger) → i < length fs → (get_or fs i d).gate.0 < nets) → sum_below (λ g. on_gate g fs) nets
    ≡ length fs
all_on_gates [] nets h = no_fingers nets
all_on_gates (f ∷ fs) nets h =
    let d : OneDiffers (λ g. on_gate g (f ∷ fs)) (λ g. on_gate g fs) nets f.gate.0 =
    one_differs (λ g. on_gate g (f ∷ fs)) (λ g. on_gate g fs) nets f.gate.0 (λ u ne. gate_other u f fs ne) in
    omega (
      arith,
      d.within (h zero f (omega arith)),
      gate_here f fs,
      all_on_gates fs nets (λ i e within. h (suc i) e (omega arith)),
    )

-- the places that stay empty, gate by gate
pub empty_places : (xs ys : List Finger) (nets : ℕ)
    → sum_below (λ g. on_gate g ys - on_gate g xs) nets + sum_below (λ g. on_gate g xs) nets ≡ most xs ys nets
empty_places xs ys zero = omega arith
empty_places xs ys (suc n) = omega (arith, empty_places xs ys n)

-- the empty places of a row that completes
pub empties_are : (row : Row) (cs : List Column) (mine other : List Finger) (nets : ℕ)
    → IsPermutation mine (fingers_in row cs)
    → ((i : ℕ) (d : Finger) → i < length mine → (get_or mine i d).gate.0 < nets) → length cs ≡ most mine other nets
    → empties (places row cs) ≡ sum_below (λ g. on_gate g other - on_gate g mine) nets
empties_are row cs mine other nets h gates fewest =
    omega (
      arith,
      fewest,
      empty_places mine other nets,
      all_on_gates mine nets gates,
      empty_and_full (places row cs),
      ap length (fingers_of_places row cs),
      length_permutation mine (fingers_in row cs) h,
      length-map cs (place row),
    )
