-- Fingers left of one row, one of them taken.
use Rattle.std.proofs.Common.{ℕ, zero, suc, ◌≡◌, ◌+◌, ◌-◌, ◌<◌, Bool, cond, true, false, List, [], ◌∷◌, length, Option, Some, None, slice_get, slice_set, slice_index, replicate, inl, inr, refl, sym, ap, subst, arith, count_by, IsPermutation, ◌∙◌}
use Rattle.std.proofs.lemmas.Bool.{cases_Bool}
use Rattle.std.proofs.lemmas.List.Sums.{sum_by-append}
use Rattle.std.proofs.lemmas.Option.{same_Some, none-some, slice_get_within, slice_get_cases}
use Rattle.std.proofs.lemmas.List.Sorted.{IsPermutation-refl, IsPermutation-middle, IsPermutation-sym, IsPermutation-trans, IsPermutation-append_right, sum_by-IsPermutation, length_permutation}
use Rattle.cell_num.specs.declared.finger.Row.{Row}
use Rattle.cell_num.specs.declared.finger.Finger.{Finger}
use Rattle.row_model.specs.declared.column.Placed.{Placed}
use Rattle.row_model.specs.Tests.{same_finger}
use Rattle.cell_num.proofs.Permutations.{permutation_from_counts, count_cons}
use Rattle.row_model.proofs.Decide.{finger_decides}
use Rattle.row_state.specs.declared.kind.Kind.{Kind}
use Rattle.row_state.specs.declared.step.Side.{Side}
use Rattle.row_state.specs.Completion.{finger_of, fingers_left}
use Rattle.row_state.specs.Steps.{placed_of, IsLeft, left_after}

pub IsPermutation-uncons : (x : Finger) (xs ys : List Finger) → IsPermutation (x ∷ xs) (x ∷ ys) → IsPermutation xs ys
IsPermutation-uncons x xs ys h =
    let same : length ys ≡ length xs = omega (arith, length_permutation (x ∷ xs) (x ∷ ys) h) in
    permutation_from_counts same_finger finger_decides xs ys same
    (λ z. omega (arith, sum_by-IsPermutation (λ y. cond (same_finger z y) 1 0) (x ∷ xs) (x ∷ ys) h, count_cons (same_finger z) x xs, count_cons (same_finger z) x ys))

-- one finger of a kind taken
pub taken : (row : Row) (kinds : List Kind) (left : List ℕ) (i : ℕ) (kind : Kind) → slice_get kinds i ≡ Some kind → 0 < slice_index left i → IsPermutation (fingers_left row kinds left) (finger_of row kind ∷ fingers_left row kinds (slice_set left i (slice_index left i - 1)))
taken row [] left i kind is some = absurd (none-some kind is)
taken row (k ∷ ks) [] i kind is some = absurd (omega (arith, some))
taken row (k ∷ ks) (zero ∷ cs) zero kind is some = absurd (omega (arith, some))
taken row (k ∷ ks) (suc c ∷ cs) zero kind is some =
    let less : suc c - 1 ≡ c = omega arith in
    let same : k ≡ kind = same_Some k kind is in
    rw (less, same) (IsPermutation-refl _)
taken row (k ∷ ks) (c ∷ cs) (suc i) kind is some =
    let inner : IsPermutation (fingers_left row ks cs) (finger_of row kind ∷ fingers_left row ks (slice_set cs i (slice_index cs i - 1))) = taken row ks cs i kind is some in
    let here : List Finger = replicate c (finger_of row k) in
    IsPermutation-trans _ _ _ (IsPermutation-append_right here _ _ inner) (IsPermutation-middle here (finger_of row kind) (fingers_left row ks (slice_set cs i (slice_index cs i - 1))))

-- a finger of a kind that is left
pub record Found (row : Row) (kinds : List Kind) (left : List ℕ) (f : Finger) : Type 0 where
  pub at : ℕ
  pub kind : Kind
  pub is : slice_get kinds at ≡ Some kind
  pub some : 0 < slice_index left at
  pub same : f ≡ finger_of row kind

found_later : (row : Row) (k : Kind) (ks : List Kind) (c : ℕ) (cs : List ℕ) (f : Finger) → Found row ks cs f → Found row (k ∷ ks) (c ∷ cs) f
found_later row k ks c cs f r = record { at = suc r.at; kind = r.kind; is = r.is; some = r.some; same = r.same }

none_in : (f g : Finger) (c : ℕ) → same_finger f g ≡ false → count_by (same_finger f) (replicate c g) ≡ 0
none_in f g zero h = refl
none_in f g (suc c) h =
    let none : ◌≡◌ {A = ℕ} (cond (same_finger f g) 1 0) 0 = rw h refl in
    omega (arith, count_cons (same_finger f) g (replicate c g), none, none_in f g c h)

pub found : (row : Row) (kinds : List Kind) (left : List ℕ) (f : Finger) → 0 < count_by (same_finger f) (fingers_left row kinds left) → Found row kinds left f
found row [] left f h = absurd (omega (arith, h))
found row (k ∷ ks) [] f h = absurd (omega (arith, h))
found row (k ∷ ks) (zero ∷ cs) f h = found_later row k ks zero cs f (found row ks cs f h)
found row (k ∷ ks) (suc c ∷ cs) f h =
    elim (cases_Bool (same_finger f (finger_of row k))) [
      | inl same ↦ record { at = zero; kind = k; is = refl; some = omega arith; same = (finger_decides f (finger_of row k)).0 same }
      | inr other ↦
          let parts : count_by (same_finger f) (fingers_left row (k ∷ ks) (suc c ∷ cs)) ≡ count_by (same_finger f) (replicate (suc c) (finger_of row k)) + count_by (same_finger f) (fingers_left row ks cs) = sum_by-append (λ y. cond (same_finger f y) 1 0) (replicate (suc c) (finger_of row k)) (fingers_left row ks cs) in
          found_later row k ks (suc c) cs f (found row ks cs f (omega (arith, h, parts, none_in f (finger_of row k) (suc c) other)))
    ]

-- a place of the row, in terms of the kinds
pub record Taken (row : Row) (kinds : List Kind) (left : List ℕ) (x : Option Placed) (rest : List Finger) : Type 0 where
  pub side : Option Side
  pub there : IsLeft kinds left side
  pub is : placed_of row kinds side ≡ x
  pub others : IsPermutation (fingers_left row kinds (left_after left side)) rest

-- the fingers left with one more place filled
abbrev pub with_place : Option Placed → List Finger → List Finger
with_place None fingers = fingers
with_place (Some x) fingers = x.finger ∷ fingers

make_placed : Finger → Bool → Placed
make_placed f b = record { finger = f; flipped = b }

placed_from : (row : Row) (kinds : List Kind) (i : ℕ) (kind : Kind) (x : Placed) → slice_get kinds i ≡ Some kind → x.finger ≡ finger_of row kind → placed_of row kinds (Some (record { kind = i; flipped = x.flipped })) ≡ Some x
unfolding make_placed
placed_from row kinds i kind x is same =
    let e : make_placed (finger_of row kind) x.flipped ≡ make_placed x.finger x.flipped = ap (λ f. make_placed f x.flipped) (sym same) in
    rw is (ap (λ y. Some y) e)

taken_found : (row : Row) (kinds : List Kind) (left : List ℕ) (x : Finger) (f : Found row kinds left x) → IsPermutation (fingers_left row kinds left) (x ∷ fingers_left row kinds (slice_set left f.at (slice_index left f.at - 1)))
taken_found row kinds left x f = subst (λ z. IsPermutation (fingers_left row kinds left) (z ∷ fingers_left row kinds (slice_set left f.at (slice_index left f.at - 1)))) (sym f.same) (taken row kinds left f.at f.kind f.is f.some)

from_found : (row : Row) (kinds : List Kind) (left : List ℕ) (x : Placed) (rest : List Finger) → IsPermutation (fingers_left row kinds left) (x.finger ∷ rest) → Found row kinds left x.finger → Taken row kinds left (Some x) rest
from_found row kinds left x rest h f =
    record {
      side = Some (record { kind = f.at; flipped = x.flipped });
      there = (slice_get_within kinds f.at f.kind f.is, f.some);
      is = placed_from row kinds f.at f.kind x f.is f.same;
      others = IsPermutation-uncons x.finger _ _ (IsPermutation-trans _ _ _ (IsPermutation-sym _ _ (taken_found row kinds left x.finger f)) h);
    }

pub row_to : (row : Row) (kinds : List Kind) (left : List ℕ) (x : Option Placed) (rest : List Finger) → IsPermutation (fingers_left row kinds left) (with_place x rest) → Taken row kinds left x rest
row_to row kinds left None rest h = record { side = None; there = tt; is = refl; others = h }
row_to row kinds left (Some x) rest h =
    let itself : same_finger x.finger x.finger ≡ true = (finger_decides x.finger x.finger).1 refl in
    let one : ◌≡◌ {A = ℕ} (cond (same_finger x.finger x.finger) 1 0) 1 = rw itself refl in
    let some : 0 < count_by (same_finger x.finger) (fingers_left row kinds left) = omega (arith, one, count_cons (same_finger x.finger) x.finger rest, sum_by-IsPermutation (λ y. cond (same_finger x.finger y) 1 0) (fingers_left row kinds left) (x.finger ∷ rest) h) in
    from_found row kinds left x rest h (found row kinds left x.finger some)

pub row_from : (row : Row) (kinds : List Kind) (left : List ℕ) (side : Option Side) → IsLeft kinds left side → IsPermutation (fingers_left row kinds left) (with_place (placed_of row kinds side) (fingers_left row kinds (left_after left side)))
row_from row kinds left None there = IsPermutation-refl _
row_from row kinds left (Some side) there = placed (slice_get kinds side.kind) refl
  where
    placed : (o : Option Kind) → slice_get kinds side.kind ≡ o → IsPermutation (fingers_left row kinds left) (with_place (placed_of row kinds (Some side)) (fingers_left row kinds (left_after left (Some side))))
    placed None e = absurd (elim (slice_get_cases kinds side.kind).1 [ inl (x, _, is, _) ↦ none-some x (sym e ∙ is) | inr (past, _) ↦ omega (arith, past, there.0) ])
    placed (Some kind) e = rw e (taken row kinds left side.kind kind e there.1)
