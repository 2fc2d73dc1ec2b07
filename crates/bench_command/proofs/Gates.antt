-- Fingers of a row, no two of them on one gate, and the columns that they fill.
use Rattle.std.specs.Prelude.{ℕ, ◌≡◌, ◌+◌, ◌<◌, ◌≤◌, ◌⊎◌, List, [], ◌∷◌, length, All, Contains, Option, Some, None}
use Rattle.std.specs.List.{cons_option}
use Rattle.std.specs.Option.{option_map}
use Rattle.std.proofs.Common.{refl, sym, ap, subst, arith, ◌∙◌, inl, inr}
use Rattle.std.proofs.lemmas.Bool.{cases_eq}
use Rattle.std.proofs.lemmas.List.Elements.{All-cons, All-nil}
use Rattle.cell_num.proofs.Lists.{contains_cons, contains_here, contains_none, contains_there}
use Rattle.cell_num.specs.declared.finger.Finger.{Finger}
use Rattle.cell_num.specs.declared.finger.Row.{Row}
use Rattle.cell_num.specs.Fingers.{on_gate}
use Rattle.row_model.specs.declared.column.Column.{Column}
use Rattle.row_model.specs.declared.column.Placed.{Placed}
use Rattle.row_model.specs.Arrangement.{fingers_in, place}
use Rattle.row_model.specs.Gaps.{right_net}
use Rattle.row_state.specs.Gates.{gate_here, gate_other}
use Rattle.row_search.specs.Reached.{end_behind}

-- ---- on gates

on_more : (gate : ℕ) (f : Finger) (fs : List Finger) → on_gate gate fs ≤ on_gate gate (f ∷ fs)
on_more gate f fs = elim (cases_eq gate f.gate.0) [
  | inl same ↦ subst (λ (g : ℕ). on_gate g fs ≤ on_gate g (f ∷ fs)) (sym same) (omega (arith, gate_here f fs))
  | inr other ↦ omega (arith, gate_other gate f fs other)
]

gate_at : (gate : ℕ) (f : Finger) (fs : List Finger) → f.gate.0 ≡ gate → on_gate gate (f ∷ fs) ≡ 1 + on_gate gate fs
gate_at gate f fs is = subst (λ (g : ℕ). on_gate g (f ∷ fs) ≡ 1 + on_gate g fs) is (gate_here f fs)

pub some_on : (fs : List Finger) (v : Finger) → Contains fs v → 0 < on_gate v.gate.0 fs
some_on [] v there = absurd (contains_none v there)
some_on (f ∷ fs) v there = elim (contains_cons f fs v there) [
  | inl here ↦ omega (arith, gate_at v.gate.0 f fs (ap (λ (z : Finger). z.gate.0) here))
  | inr later ↦ omega (arith, some_on fs v later, on_more v.gate.0 f fs)
]

-- two fingers on such a gate are one
pub one_on : (fs : List Finger) (u v : Finger) → Contains fs u → Contains fs v → u.gate.0 ≡ v.gate.0 → on_gate v.gate.0 fs ≤ 1 → u ≡ v
one_on [] u v first second same single = absurd (contains_none u first)
one_on (f ∷ fs) u v first second same single = by_places (contains_cons f fs u first) (contains_cons f fs v second) (λ a b. one_on fs u v a b same (omega (arith, single, on_more v.gate.0 f fs)))
  where
    by_places : (f ≡ u) ⊎ Contains fs u → (f ≡ v) ⊎ Contains fs v → (Contains fs u → Contains fs v → u ≡ v) → u ≡ v
    by_places (inl a) (inl b) later = sym a ∙ b
    by_places (inl a) (inr b) later = absurd (omega (arith, single, gate_at v.gate.0 f fs (ap (λ (z : Finger). z.gate.0) a ∙ same), some_on fs v b))
    by_places (inr a) (inl b) later = absurd (omega (arith, single, gate_at v.gate.0 f fs (ap (λ (z : Finger). z.gate.0) b), subst (λ (g : ℕ). 0 < on_gate g fs) same (some_on fs u a)))
    by_places (inr a) (inr b) later = later a b

-- ---- in columns

one_finger : (o : Option Finger) (fs : List Finger) → length (cons_option o fs) ≤ 1 + length fs
one_finger None fs = omega arith
one_finger (Some f) fs = omega arith

abbrev finger_at : Row → Column → Option Finger
finger_at row c = option_map (λ (x : Placed). x.finger) (place row c)

fingers_few : (row : Row) (cs : List Column) → length (fingers_in row cs) ≤ length cs
fingers_few row [] = omega arith
fingers_few row (c ∷ cs) = omega (arith, one_finger (finger_at row c) (fingers_in row cs), fingers_few row cs)

abbrev pub IsFilled : Row → Column → Type 0
IsFilled row c = (x : Placed) × (place row c ≡ Some x)

-- where there are as many fingers as columns each column has one
pub all_filled : (row : Row) (cs : List Column) → length cs ≤ length (fingers_in row cs) → All (IsFilled row) cs
all_filled row [] many = All-nil (IsFilled row)
all_filled row (c ∷ cs) many = by_place (place row c) refl (λ h. all_filled row cs h)
  where
    by_place : (o : Option Placed) → place row c ≡ o → (length cs ≤ length (fingers_in row cs) → All (IsFilled row) cs) → All (IsFilled row) (c ∷ cs)
    by_place None is later =
        let none : length (fingers_in row (c ∷ cs)) ≡ length (fingers_in row cs) = ap (λ (z : Option Placed). length (cons_option (option_map (λ (x : Placed). x.finger) z) (fingers_in row cs))) is in
        absurd (omega (arith, many, none, fingers_few row cs))
    by_place (Some x) is later = All-cons (IsFilled row) c cs (x, is) (later (omega (arith, many, one_finger (finger_at row c) (fingers_in row cs))))

-- ---- the last column

pub record Last (prefix : List Column) : Type 0 where
  pub column : Column
  pub listed : Contains prefix column
  pub ends : (row : Row) → end_behind row prefix ≡ option_map right_net (place row column)

pub last_of : (c : Column) (cs : List Column) → Last (c ∷ cs)
last_of c [] = record { column = c; listed = contains_here c []; ends = λ row. refl }
last_of c (d ∷ ds) = let l = last_of d ds in record { column = l.column; listed = contains_there c (d ∷ ds) l.column l.listed; ends = l.ends }
