-- How many fingers on a gate stay, and how many columns those that stay need.
use Rattle.std.proofs.Common.{ℕ, zero, suc, ◌≡◌, ◌<◌, ◌≤◌, true, false, not, cond, max, List, [], ◌∷◌, Option, Some}
use Rattle.std.proofs.Common.{None, refl, sym, ap, arith, ◌∙◌, inl, inr}
use Rattle.std.proofs.lemmas.Bool.{both_ways, cases_Bool, ne_eqb}
use Rattle.std.proofs.lemmas.List.Elements.{All-filter}
use Rattle.cell_num.specs.declared.finger.Row.{Row}
use Rattle.cell_num.specs.declared.finger.Row.TheVariants.{P, N}
use Rattle.cell_num.specs.declared.finger.Finger.{Finger}
use Rattle.cell_num.specs.declared.finger.Fingers.{Fingers}
use Rattle.cell_num.specs.Fingers.{AreFingers, IsFinger, columns_of, on_gate, sum_below}
use Rattle.cell_num.proofs.Permutations.{count_cons}
use Rattle.row_state.specs.ClassSums.{sum_below_mono}
use Rattle.trail_state.specs.Choices.{is_on}
use Rattle.trail_state.proofs.Members.{filter_off, filter_on}
use Rattle.fewer_fingers.specs.declared.fewer.LeftOut.{LeftOut}
use Rattle.fewer_fingers.specs.Fewer.{is_out, staying, staying_in, without_in}
use Rattle.fewer_fingers.proofs.Thinned.{stays}

-- sums whose terms below n agree
pub sum_same_within : (f h : ℕ → ℕ) (n : ℕ) → ((g : ℕ) → g < n → f g ≡ h g) → sum_below f n ≡ sum_below h n
sum_same_within f h zero same = refl
sum_same_within f h (suc n) same =
    omega (arith, sum_same_within f h n (λ g l. same g (omega (arith, l))), same n (omega arith))

-- a finger of another kind of gate is on another gate
not_on : (out : LeftOut) (g : ℕ) (x : Finger) → (is_out out x.gate.0 ≡ is_out out g → ⊥)
    → ◌≡◌ {A = ℕ} (cond (is_on g x) 1 0) 0
not_on out g x differ = rw (ne_eqb x.gate.0 g (λ e. differ (ap (is_out out) e))) refl

-- of a gate of which fingers are left out none stay
pub none_stay : (out : LeftOut) (g : ℕ) (fs : List Finger) → is_out out g ≡ true → on_gate g (staying_in out fs) ≡ 0
none_stay out g [] gone = refl
none_stay out g (x ∷ xs) gone =
    elim (cases_Bool (is_out out x.gate.0)) [
      | inl e ↦ ap (on_gate g) (filter_off (stays out) x xs (ap not e)) ∙ none_stay out g xs gone
      | inr e ↦ omega (
        arith,
        ap (on_gate g) (filter_on (stays out) x xs (ap not e)),
        count_cons (is_on g) x (staying_in out xs),
        not_on out g x (λ same. both_ways (is_out out g) (sym same ∙ e) gone),
        none_stay out g xs gone,
      )
    ]

-- of another gate all stay
pub all_stay : (out : LeftOut) (g : ℕ) (fs : List Finger) → is_out out g ≡ false → on_gate g (staying_in out fs)
    ≡ on_gate g fs
all_stay out g [] here = refl
all_stay out g (x ∷ xs) here =
    elim (cases_Bool (is_out out x.gate.0)) [
      | inl e ↦ omega (
        arith,
        ap (on_gate g) (filter_off (stays out) x xs (ap not e)),
        count_cons (is_on g) x xs,
        not_on out g x (λ same. both_ways (is_out out g) here (sym same ∙ e)),
        all_stay out g xs here,
      )
      | inr e ↦ omega (
        arith,
        ap (on_gate g) (filter_on (stays out) x xs (ap not e)),
        count_cons (is_on g) x (staying_in out xs),
        count_cons (is_on g) x xs,
        all_stay out g xs here,
      )
    ]

few_stay : (out : LeftOut) (g : ℕ) (fs : List Finger) → on_gate g (staying_in out fs) ≤ on_gate g fs
few_stay out g fs = elim (cases_Bool (is_out out g)) [
  | inl gone ↦ omega (arith, none_stay out g fs gone)
  | inr here ↦ omega (arith, all_stay out g fs here)
]

-- those that stay need no more columns
few_columns_in : (r : Row) (out : LeftOut) (f : Fingers) → columns_of (without_in r out f) ≤ columns_of f
few_columns_in P out f =
    sum_below_mono (λ g. max (on_gate g (staying_in out f.p)) (on_gate g f.n))
    (λ g. max (on_gate g f.p) (on_gate g f.n)) f.nets (λ g. omega (arith, few_stay out g f.p))
few_columns_in N out f =
    sum_below_mono (λ g. max (on_gate g f.p) (on_gate g (staying_in out f.n)))
    (λ g. max (on_gate g f.p) (on_gate g f.n)) f.nets (λ g. omega (arith, few_stay out g f.n))

pub few_columns : (out : Option LeftOut) (f : Fingers) → columns_of (staying out f) ≤ columns_of f
few_columns None f = omega arith
few_columns (Some out) f = few_columns_in out.row out f

-- those that stay are fingers
fingers_stay : (r : Row) (out : LeftOut) (f : Fingers) → AreFingers f → AreFingers (without_in r out f)
fingers_stay P out f ok = record {
  p = All-filter (stays out) (IsFinger P f.nets) f.p ok.p;
  n = ok.n;
  few_nets = ok.few_nets;
  few_columns = omega (arith, few_columns_in P out f, ok.few_columns);
}
fingers_stay N out f ok = record {
  p = ok.p;
  n = All-filter (stays out) (IsFinger N f.nets) f.n ok.n;
  few_nets = ok.few_nets;
  few_columns = omega (arith, few_columns_in N out f, ok.few_columns);
}

pub staying_fingers : (f : Fingers) → AreFingers f → (out : Option LeftOut) → AreFingers (staying out f)
staying_fingers f ok None = ok
staying_fingers f ok (Some out) = fingers_stay out.row out f ok
