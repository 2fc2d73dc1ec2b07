-- The columns of a row on one gate arrange the fingers of that gate.
use Rattle.std.proofs.Common.{ℕ, zero, suc, ◌≡◌, ◌+◌, ◌<◌, ◌≤◌, ◌==◌, Bool, true, false, cond, max, List, [], ◌∷◌, length, Option, Some, None, option_map, refl, sym, ap, subst, arith, ◌∙◌, inl, inr, All, IsPermutation, count_by}
use Rattle.std.specs.Bool.{Decides}
use Rattle.std.specs.List.{cons_option, filter}
use Rattle.std.proofs.lemmas.Bool.{both_ways, cases_Bool, cases_eq, eqb-true, ne_eqb}
use Rattle.std.proofs.lemmas.List.Elements.{All-contains, All-head, All-tail}
use Rattle.std.proofs.lemmas.List.Sorted.{sum_by-IsPermutation}
use Rattle.std.proofs.lemmas.List.Sums.{length-filter}
use Rattle.cell_num.specs.declared.net.NetNo.{NetNo}
use Rattle.cell_num.specs.declared.finger.Row.{Row}
use Rattle.cell_num.specs.declared.finger.Row.TheVariants.{P, N}
use Rattle.cell_num.specs.declared.finger.Finger.{Finger}
use Rattle.cell_num.specs.declared.finger.Fingers.{Fingers}
use Rattle.cell_num.specs.Fingers.{columns_of, on_gate, sum_below}
use Rattle.cell_num.proofs.Lists.{all_from_contains}
use Rattle.cell_num.proofs.Permutations.{count_cons, permutation_from_counts}
use Rattle.row_model.specs.declared.column.Placed.{Placed}
use Rattle.row_model.specs.declared.column.Column.{Column}
use Rattle.row_model.specs.Arrangement.{AreOneColumn, IsArrangement, IsColumn, fingers_in, place}
use Rattle.row_model.specs.Tests.{same_finger}
use Rattle.row_model.proofs.Decide.{finger_decides}
use Rattle.row_state.specs.ClassSums.{sum_below_mono}
use Rattle.row_state.specs.Gates.{OneDiffers, one_differs, sum_below_same}
use Rattle.row_state.specs.Order.{gate_key}
use Rattle.trail_state.specs.Choices.{fingers_on, is_on}
use Rattle.trail_state.proofs.Members.{filter_off, filter_on, passes_from}
use Rattle.trail_state.proofs.Sizes.{sum_keys}

zero_either : (b : Bool) → ◌≡◌ {A = ℕ} 0 (cond b 0 0)
zero_either true = refl
zero_either false = refl

module _ {X : Type 0} (eq : X → X → Bool) (decides : (a b : X) → Decides (eq a b) (a ≡ b)) (q : X → Bool) where
  -- of those that pass the test a list has as many as before
  count_passing : (z : X) (xs : List X) → count_by (eq z) (filter q xs) ≡ cond (q z) (count_by (eq z) xs) 0
  count_passing z [] = zero_either (q z)
  count_passing z (x ∷ xs) =
      let rest : count_by (eq z) (filter q xs) ≡ cond (q z) (count_by (eq z) xs) 0 = count_passing z xs in
      elim (cases_Bool (q x)) [
        | inl on ↦
            let here : count_by (eq z) (filter q (x ∷ xs)) ≡ cond (eq z x) 1 0 + count_by (eq z) (filter q xs) = ap (count_by (eq z)) (filter_on q x xs on) ∙ count_cons (eq z) x (filter q xs) in
            elim (cases_Bool (q z)) [
              | inl z_on ↦
                  let before : ◌≡◌ {A = ℕ} (cond (q z) (count_by (eq z) xs) 0) (count_by (eq z) xs) = rw z_on refl in
                  let now : ◌≡◌ {A = ℕ} (cond (q z) (count_by (eq z) (x ∷ xs)) 0) (count_by (eq z) (x ∷ xs)) = rw z_on refl in
                  omega (arith, here, rest, before, now, count_cons (eq z) x xs)
              | inr z_off ↦
                  let before : ◌≡◌ {A = ℕ} (cond (q z) (count_by (eq z) xs) 0) 0 = rw z_off refl in
                  let now : ◌≡◌ {A = ℕ} (cond (q z) (count_by (eq z) (x ∷ xs)) 0) 0 = rw z_off refl in
                  let other : ◌≡◌ {A = ℕ} (cond (eq z x) 1 0) 0 = rw (differs z x z_off on) refl in
                  omega (arith, here, rest, before, now, other)
            ]
        | inr off ↦
            let here : count_by (eq z) (filter q (x ∷ xs)) ≡ count_by (eq z) (filter q xs) = ap (count_by (eq z)) (filter_off q x xs off) in
            elim (cases_Bool (q z)) [
              | inl z_on ↦
                  let before : ◌≡◌ {A = ℕ} (cond (q z) (count_by (eq z) xs) 0) (count_by (eq z) xs) = rw z_on refl in
                  let now : ◌≡◌ {A = ℕ} (cond (q z) (count_by (eq z) (x ∷ xs)) 0) (count_by (eq z) (x ∷ xs)) = rw z_on refl in
                  let other : ◌≡◌ {A = ℕ} (cond (eq z x) 1 0) 0 = rw (differs' z x z_on off) refl in
                  omega (arith, here, rest, before, now, other, count_cons (eq z) x xs)
              | inr z_off ↦
                  let before : ◌≡◌ {A = ℕ} (cond (q z) (count_by (eq z) xs) 0) 0 = rw z_off refl in
                  let now : ◌≡◌ {A = ℕ} (cond (q z) (count_by (eq z) (x ∷ xs)) 0) 0 = rw z_off refl in
                  omega (arith, here, rest, before, now)
            ]
      ]
    where
      differs : (z x : X) → q z ≡ false → q x ≡ true → eq z x ≡ false
      differs z x off on = elim (cases_Bool (eq z x)) [ inl same ↦ absurd (both_ways (q z) off (ap q ((decides z x).0 same) ∙ on)) | inr other ↦ other ]

      differs' : (z x : X) → q z ≡ true → q x ≡ false → eq z x ≡ false
      differs' z x on off = elim (cases_Bool (eq z x)) [ inl same ↦ absurd (both_ways (q x) off (ap q (sym ((decides z x).0 same)) ∙ on)) | inr other ↦ other ]

  pub permutation_passing : (xs ys : List X) → IsPermutation xs ys → IsPermutation (filter q xs) (filter q ys)
  permutation_passing xs ys p =
      permutation_from_counts eq decides (filter q xs) (filter q ys)
      (length-filter q ys ∙ sum_by-IsPermutation (λ x. cond (q x) 1 0) xs ys p ∙ sym (length-filter q xs))
      (λ z. let same : count_by (eq z) ys ≡ count_by (eq z) xs = sum_by-IsPermutation (λ x. cond (eq z x) 1 0) xs ys p in
      let counts : cond (q z) (count_by (eq z) ys) 0 ≡ cond (q z) (count_by (eq z) xs) 0 = ap (λ m. cond (q z) m 0) same in
      omega (arith, count_passing z xs, count_passing z ys, counts))

abbrev pub gate_at : Column → ℕ
gate_at c = gate_key c.p c.n

abbrev pub columns_on : ℕ → List Column → List Column
columns_on g row = filter (λ (c : Column). gate_at c == g) row

abbrev GateIs : Option Placed → ℕ → Type 0
GateIs None g = Unit {0}
GateIs (Some x) g = x.finger.gate.0 ≡ g

-- both places of a column have its gate
p_gate : (x y : Option Placed) → AreOneColumn x y → GateIs x (gate_key x y)
p_gate None y one = tt
p_gate (Some x) None one = refl
p_gate (Some x) (Some y) one = refl

n_gate : (x y : Option Placed) → AreOneColumn x y → GateIs y (gate_key x y)
n_gate None None one = tt
n_gate None (Some y) one = refl
n_gate (Some x) None one = tt
n_gate (Some x) (Some y) one = sym (ap (λ (n : NetNo). n.0) one.0)

place_gate : (r : Row) (c : Column) → IsColumn c → GateIs (place r c) (gate_at c)
place_gate P c one = p_gate c.p c.n one
place_gate N c one = n_gate c.p c.n one

-- a finger of the gate passes, others don't
kept_on : (o : Option Placed) (g k : ℕ) (fs : List Finger) → GateIs o k → (k == g) ≡ true → filter (is_on g) (cons_option (option_map (λ (x : Placed). x.finger) o) fs) ≡ cons_option (option_map (λ (x : Placed). x.finger) o) (filter (is_on g) fs)
kept_on None g k fs is e = refl
kept_on (Some x) g k fs is e = filter_on (is_on g) x.finger fs (ap (λ v. v == g) is ∙ e)

left_off : (o : Option Placed) (g k : ℕ) (fs : List Finger) → GateIs o k → (k == g) ≡ false → filter (is_on g) (cons_option (option_map (λ (x : Placed). x.finger) o) fs) ≡ filter (is_on g) fs
left_off None g k fs is e = refl
left_off (Some x) g k fs is e = filter_off (is_on g) x.finger fs (ap (λ v. v == g) is ∙ e)

pub fingers_of_gate : (r : Row) (g : ℕ) (cs : List Column) → All IsColumn cs → fingers_in r (columns_on g cs) ≡ filter (is_on g) (fingers_in r cs)
fingers_of_gate r g [] columns = refl
fingers_of_gate r g (c ∷ cs) columns =
    let rest : fingers_in r (columns_on g cs) ≡ filter (is_on g) (fingers_in r cs) = fingers_of_gate r g cs (All-tail IsColumn c cs columns) in
    let gate : GateIs (place r c) (gate_at c) = place_gate r c (All-head IsColumn c cs columns) in
    elim (cases_Bool (gate_at c == g)) [
      | inl on ↦ ap (fingers_in r) (filter_on (λ (d : Column). gate_at d == g) c cs on) ∙ ap (cons_option (option_map (λ (x : Placed). x.finger) (place r c))) rest ∙ sym (kept_on (place r c) g (gate_at c) (fingers_in r cs) gate on)
      | inr off ↦ ap (fingers_in r) (filter_off (λ (d : Column). gate_at d == g) c cs off) ∙ rest ∙ sym (left_off (place r c) g (gate_at c) (fingers_in r cs) gate off)
    ]

-- a row has no more fingers than columns
pub few_fingers : (r : Row) (cs : List Column) → length (fingers_in r cs) ≤ length cs
few_fingers r [] = omega arith
few_fingers r (c ∷ cs) = omega (arith, at_most (place r c) (fingers_in r cs), few_fingers r cs)
  where
    at_most : (o : Option Placed) (fs : List Finger) → length (cons_option (option_map (λ (x : Placed). x.finger) o) fs) ≤ 1 + length fs
    at_most None fs = omega arith
    at_most (Some x) fs = omega arith

-- sums that agree agree in each term, where no term is the lesser
tight : (f h : ℕ → ℕ) (n : ℕ) → ((g : ℕ) → h g ≤ f g) → sum_below f n ≡ sum_below h n → (g : ℕ) → g < n → f g ≡ h g
tight f h zero le same g l = absurd (omega (arith, l))
tight f h (suc n) le same g l =
    let below : sum_below h n ≤ sum_below f n = sum_below_mono h f n le in
    elim (cases_eq g n) [
      | inl e ↦ let here : f n ≡ h n = omega (arith, le n, same, below) in ap f e ∙ here ∙ sym (ap h e)
      | inr other ↦ tight f h n le (omega (arith, le n, same, below)) g (omega (arith, l, other))
    ]

-- the gate's own fingers
on_same : (g : ℕ) (fs : List Finger) → on_gate g (filter (is_on g) fs) ≡ on_gate g fs
on_same g [] = refl
on_same g (x ∷ xs) =
    elim (cases_Bool (is_on g x)) [
      | inl on ↦ omega (arith, ap (on_gate g) (filter_on (is_on g) x xs on), count_cons (is_on g) x (filter (is_on g) xs), count_cons (is_on g) x xs, on_same g xs)
      | inr off ↦
          let none : ◌≡◌ {A = ℕ} (cond (is_on g x) 1 0) 0 = rw off refl in
          omega (arith, ap (on_gate g) (filter_off (is_on g) x xs off), none, count_cons (is_on g) x xs, on_same g xs)
    ]

on_other : (g h : ℕ) (fs : List Finger) → (h ≡ g → ⊥) → on_gate h (filter (is_on g) fs) ≡ 0
on_other g h [] differ = refl
on_other g h (x ∷ xs) differ =
    elim (cases_Bool (is_on g x)) [
      | inl on ↦
          let none : ◌≡◌ {A = ℕ} (cond (is_on h x) 1 0) 0 = rw (ne_eqb x.gate.0 h (λ e. differ (sym e ∙ eqb-true x.gate.0 g on))) refl in
          omega (arith, ap (on_gate h) (filter_on (is_on g) x xs on), count_cons (is_on h) x (filter (is_on g) xs), none, on_other g h xs differ)
      | inr off ↦ omega (arith, ap (on_gate h) (filter_off (is_on g) x xs off), on_other g h xs differ)
    ]

abbrev most_on : Fingers → ℕ → ℕ
most_on f g = max (on_gate g f.p) (on_gate g f.n)

pub columns_of_gate : (f : Fingers) (g : ℕ) → g < f.nets → columns_of (fingers_on g f) ≡ max (on_gate g f.p) (on_gate g f.n)
columns_of_gate f g within =
    let one : OneDiffers (most_on (fingers_on g f)) (λ h. 0) f.nets g = one_differs (most_on (fingers_on g f)) (λ h. 0) f.nets g (λ h differ. omega (arith, on_other g h f.p differ, on_other g h f.n differ)) in
    omega (arith, one.within within, zeros f.nets, on_same g f.p, on_same g f.n)
  where
    zeros : (n : ℕ) → sum_below (λ h. 0) n ≡ 0
    zeros zero = refl
    zeros (suc n) = omega (arith, zeros n)

-- an arrangement whose gates are nets
module _ (f : Fingers) (row : List Column) (arranges : IsArrangement row f) (nets : All (λ (c : Column). gate_at c < f.nets) row) where
  p_count : (g : ℕ) → on_gate g f.p ≡ length (fingers_in P (columns_on g row))
  p_count g = sym (sum_by-IsPermutation (λ x. cond (is_on g x) 1 0) f.p (fingers_in P row) arranges.p) ∙ sym (length-filter (is_on g) (fingers_in P row)) ∙ ap length (sym (fingers_of_gate P g row arranges.columns))

  n_count : (g : ℕ) → on_gate g f.n ≡ length (fingers_in N (columns_on g row))
  n_count g = sym (sum_by-IsPermutation (λ x. cond (is_on g x) 1 0) f.n (fingers_in N row) arranges.n) ∙ sym (length-filter (is_on g) (fingers_in N row)) ∙ ap length (sym (fingers_of_gate N g row arranges.columns))

  enough : (g : ℕ) → max (on_gate g f.p) (on_gate g f.n) ≤ length (columns_on g row)
  enough g = omega (arith, p_count g, n_count g, few_fingers P (columns_on g row), few_fingers N (columns_on g row))

  all_columns : sum_below (λ g. length (columns_on g row)) f.nets ≡ length row
  all_columns = sum_below_same (λ g. length (columns_on g row)) (λ g. count_by (λ (c : Column). gate_at c == g) row) f.nets (λ g. length-filter (λ (c : Column). gate_at c == g) row) ∙ sum_keys gate_at row f.nets nets

  fewest_of_gate : (g : ℕ) → g < f.nets → length (columns_on g row) ≡ columns_of (fingers_on g f)
  fewest_of_gate g within =
      tight (λ h. length (columns_on h row)) (λ h. max (on_gate h f.p) (on_gate h f.n)) f.nets enough (all_columns ∙ arranges.fewest) g within ∙ sym (columns_of_gate f g within)

  pub gate_arranges : (g : ℕ) → g < f.nets → IsArrangement (columns_on g row) (fingers_on g f)
  gate_arranges g within = record {
    columns = all_from_contains IsColumn (columns_on g row) (λ c k. All-contains IsColumn row c arranges.columns (passes_from (λ (d : Column). gate_at d == g) row c k).there);
    p = subst (IsPermutation (filter (is_on g) f.p)) (sym (fingers_of_gate P g row arranges.columns)) (permutation_passing same_finger finger_decides (is_on g) f.p (fingers_in P row) arranges.p);
    n = subst (IsPermutation (filter (is_on g) f.n)) (sym (fingers_of_gate N g row arranges.columns)) (permutation_passing same_finger finger_decides (is_on g) f.n (fingers_in N row) arranges.n);
    fewest = fewest_of_gate g within;
  }
