-- A walk through the places of a row costs at least the trails of its classes.
use Rattle.std.proofs.Common.{ℕ, zero, suc, ◌≡◌, ◌+◌, ◌-◌, ◌<◌, ◌≤◌, Bool, true, false, ◌==◌, if◌then◌else◌, max}
use Rattle.std.proofs.Common.{min, List, [], ◌∷◌, Option, Some, None, refl, ap, arith, ◌∙◌, inl}
use Rattle.std.proofs.Common.{inr, All}
use Rattle.std.proofs.lemmas.Bool.{cases_eq, ne_eqb}
use Rattle.std.proofs.lemmas.List.Elements.{All-head, All-tail}
use Rattle.cell_num.specs.Fingers.{sum_below}
use Rattle.cell_num.specs.declared.finger.Finger.{Finger}
use Rattle.cell_num.specs.declared.net.NetNo.{NetNo}
use Rattle.row_model.specs.Gaps.{left_net, right_net}
use Rattle.row_model.specs.declared.column.Placed.{Placed}
use Rattle.row_trails.specs.Counts.{size_in}
use Rattle.row_trails.specs.Trails.{empties, end_differs, odd, places, row_cost}
use Rattle.row_trails.specs.Trails.{toggle}
use Rattle.row_state.specs.Chained.{joined_a, joined_turned, least_labels, least_le}
use Rattle.row_state.specs.ClassBounds.{Classes, IsEven, IsJoined, begins, breaks, closed_none, free_at, free_is}
use Rattle.row_state.specs.ClassBounds.{closed_low, goes_on, open_at, open_here, open_other}
use Rattle.row_state.specs.ClassSums.{sum_below_mono}
use Rattle.row_state.specs.ClassSizes.{has_no_high, has_stays, no_finger_even, size_in_toggle}
use Rattle.row_state.specs.Classes.{joined, least_chained}
use Rattle.row_state.specs.Component.{has_finger}
use Rattle.row_state.specs.Degrees.{fingers_of, odd_degree}

pub open_le_free : (n : ℕ) (k : Classes) (v h : ℕ) → IsEven n k → open_at n k v h ≤ free_at n k h
unfolding free_at
open_le_free n k v h even = elim (cases_eq h (k.class v)) [
  | inl e ↦ omega (
    arith,
    open_here n k v h e,
    closed_low (k.has h) (size_in n k.class k.odd h) (size_in n k.class (toggle v k.odd) h) (even h)
        (size_in_toggle n k.class k.odd h v),
  )
  | inr other ↦ omega (arith, open_other n k v h other)
]

abbrev pub EndsBelow : ℕ → Finger → Type 0
EndsBelow n f = (f.lo.0 < n) × (f.hi.0 < n)

-- the classes of the fingers in a row's places, and the nets that it meets an odd number of times
unfoldable pub classes_of : List (Option Placed) → Classes
classes_of xs = record {
  class = least_chained (fingers_of xs);
  has = has_finger (least_chained (fingers_of xs)) (fingers_of xs);
  odd = odd xs;
}

-- a finger joins the classes of its ends, whichever of them is the left one
class_step : (f : Finger) (flipped : Bool) (fs : List Finger) (u : ℕ)
    → (let x : Placed = record { finger = f; flipped = flipped } in
    least_chained (f ∷ fs) u ≡ joined (least_chained fs (left_net x).0) (least_chained fs (right_net x).0)
    (least_chained fs u))
class_step f true fs u = joined_turned (least_chained fs f.lo.0) (least_chained fs f.hi.0) (least_chained fs u)
class_step f false fs u = refl

low_step : (f : Finger) (flipped : Bool) (fs : List Finger)
    → (let x : Placed = record { finger = f; flipped = flipped } in least_chained (f ∷ fs) f.lo.0
    ≡ min (least_chained fs (left_net x).0) (least_chained fs (right_net x).0))
low_step f true fs =
    let turned : min (least_chained fs f.lo.0) (least_chained fs f.hi.0)
    ≡ min (least_chained fs f.hi.0) (least_chained fs f.lo.0) = omega arith in
    joined_a (least_chained fs f.lo.0) (least_chained fs f.hi.0) ∙ turned
low_step f false fs = joined_a (least_chained fs f.lo.0) (least_chained fs f.hi.0)

nets_step : (f : Finger) (flipped : Bool) (n : ℕ) → EndsBelow n f
    → (let x : Placed = record { finger = f; flipped = flipped } in ((left_net x).0 < n) × ((right_net x).0 < n))
nets_step f true n h = (h.1, h.0)
nets_step f false n h = h

has_other : (f : Finger) (fs : List Finger) (a b h : ℕ) (c d : ℕ → ℕ) → ((u : ℕ) → d u ≡ joined a b (c u))
    → d f.lo.0 ≡ min a b → (h ≡ a → ⊥) → (h ≡ b → ⊥) → has_finger d (f ∷ fs) h ≡ has_finger c fs h
has_other f fs a b h c d is low not_a not_b =
    let gone : (d f.lo.0 == h) ≡ false = ne_eqb (d f.lo.0) h (λ e. omega (arith, low, e, not_a, not_b)) in
    rw gone (has_stays fs a b h c d is not_a not_b)

has_high : (f : Finger) (fs : List Finger) (a b : ℕ) (c d : ℕ → ℕ) → ((u : ℕ) → d u ≡ joined a b (c u))
    → d f.lo.0 ≡ min a b → (a ≡ b → ⊥) → has_finger d (f ∷ fs) (max a b) ≡ false
has_high f fs a b c d is low differ =
    let gone : (d f.lo.0 == max a b) ≡ false = ne_eqb (d f.lo.0) (max a b) (λ e. omega (arith, low, e, differ)) in
    rw gone (has_no_high fs a b c d is differ)

classes_even : (n : ℕ) (xs : List (Option Placed)) → IsEven n (classes_of xs)
unfolding classes_of
classes_even n xs h none = no_finger_even n (least_chained (fingers_of xs)) (fingers_of xs) (odd xs) h
    (least_labels (fingers_of xs)) (λ u. odd_degree xs u) none

classes_joined : (n : ℕ) (x : Placed) (xs : List (Option Placed)) → EndsBelow n x.finger
    → IsJoined n (left_net x).0 (right_net x).0 (classes_of xs) (classes_of (Some x ∷ xs))
unfolding classes_of fingers_of
classes_joined n x xs ends =
    let fs : List Finger = fingers_of xs in
    let a : ℕ = least_chained fs (left_net x).0 in
    let b : ℕ = least_chained fs (right_net x).0 in
    let nets : ((left_net x).0 < n) × ((right_net x).0 < n) = nets_step x.finger x.flipped n ends in
    let low : least_chained (x.finger ∷ fs) x.finger.lo.0 ≡ min a b = low_step x.finger x.flipped fs in
    record {
      even = classes_even n xs;
      l_net = omega (arith, nets.0, least_le fs (left_net x).0);
      r_net = omega (arith, nets.1, least_le fs (right_net x).0);
      class = λ u. class_step x.finger x.flipped fs u;
      other = λ h not_a not_b. has_other x.finger fs a b h (least_chained fs) (least_chained (x.finger ∷ fs))
          (λ u. class_step x.finger x.flipped fs u) low not_a not_b;
      high = λ differ. has_high x.finger fs a b (least_chained fs) (least_chained (x.finger ∷ fs))
          (λ u. class_step x.finger x.flipped fs u) low differ;
      odd = refl;
    }

no_classes : (n h : ℕ) → free_at n (classes_of []) h ≡ 0
unfolding classes_of fingers_of
no_classes n h = free_is n (classes_of []) h ∙ closed_none false (size_in n (λ u. u) (λ u. false) h) refl

zeros : (f : ℕ → ℕ) (n : ℕ) → ((h : ℕ) → f h ≡ 0) → sum_below f n ≡ 0
zeros f zero none = refl
zeros f (suc n) none = omega (arith, zeros f n none, none n)

-- A walk costs at least the trails of the classes, less the one that it goes on from or begins with.
pub record Walks (n : ℕ) (xs : List (Option Placed)) : Type 0 where
  pub after : (v : NetNo) → sum_below (open_at n (classes_of xs) v.0) n ≤ row_cost (Some v) xs + empties xs
  pub free : sum_below (free_at n (classes_of xs)) n ≤ row_cost None xs + empties xs + 1

pub open_free : (n v : ℕ) (xs : List (Option Placed)) → sum_below (open_at n (classes_of xs) v) n
    ≤ sum_below (free_at n (classes_of xs)) n
open_free n v xs = sum_below_mono (open_at n (classes_of xs) v) (free_at n (classes_of xs)) n
    (λ h. open_le_free n (classes_of xs) v h (classes_even n xs))

walks_empty : (n : ℕ) (xs : List (Option Placed)) → Walks n xs → Walks n (None ∷ xs)
unfolding classes_of fingers_of
walks_empty n xs rest = record {
  after = λ v. omega (arith, rest.free, open_free n v.0 xs);
  free = omega (arith, rest.free);
}

walks_on : (n : ℕ) (x : Placed) (xs : List (Option Placed)) → EndsBelow n x.finger → Walks n xs → Walks n (Some x ∷ xs)
walks_on n x xs ends rest =
    let j = classes_joined n x xs ends in
    let behind : sum_below (open_at n (classes_of xs) (right_net x).0) n
    ≤ row_cost (Some (right_net x)) xs + empties xs = rest.after (right_net x) in
    record {
      after = λ v. elim (cases_eq v.0 (left_net x).0) [
        | inl same ↦
            let moved : sum_below (open_at n (classes_of (Some x ∷ xs)) v.0) n
            ≡ sum_below (open_at n (classes_of (Some x ∷ xs)) (left_net x).0) n =
            ap (λ u. sum_below (open_at n (classes_of (Some x ∷ xs)) u) n) same in
            omega (
              arith,
              moved,
              behind,
              goes_on n (left_net x).0 (right_net x).0 (classes_of xs)
                  (classes_of (Some x ∷ xs)) j,
            )
        | inr other ↦
            let costs : ◌≡◌ {A = ℕ} (if end_differs (Some v) (Some x) then 1 else 0) 1 =
            rw (ne_eqb v.0 (left_net x).0 other) refl in
            omega (
              arith,
              costs,
              behind,
              breaks n (left_net x).0 (right_net x).0 v.0 (classes_of xs)
                  (classes_of (Some x ∷ xs)) j,
            )
      ];
      free = omega (
        arith,
        behind,
        begins n (left_net x).0 (right_net x).0 (classes_of xs) (classes_of (Some x ∷ xs))
            j,
      );
    }

pub walks : (n : ℕ) (xs : List (Option Placed)) → All (EndsBelow n) (fingers_of xs) → Walks n xs
unfolding fingers_of
walks n [] ends =
    let none : sum_below (free_at n (classes_of [])) n ≡ 0 = zeros (free_at n (classes_of [])) n (no_classes n) in
    record { after = λ v. omega (arith, none, open_free n v.0 []); free = omega (arith, none) }
walks n (None ∷ xs) ends = walks_empty n xs (walks n xs ends)
walks n (Some x ∷ xs) ends = walks_on n x xs (All-head (EndsBelow n) x.finger (fingers_of xs) ends)
    (walks n xs (All-tail (EndsBelow n) x.finger (fingers_of xs) ends))
