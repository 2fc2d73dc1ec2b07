-- How many columns fingers need, and one column more.
use Rattle.std.proofs.Common.{ℕ, zero, suc, ◌≡◌, ◌+◌, ◌<◌, ◌≤◌, max, cond, ◌==◌, List, [], ◌∷◌, length, Option, Some, None, option_map, inl, inr, refl, sym, ap, subst, arith, All, IsPermutation, ◌∙◌}
use Rattle.std.proofs.lemmas.Bool.{cases_lt}
use Rattle.std.proofs.lemmas.List.Sorted.{sum_by-IsPermutation}
use Rattle.std.proofs.lemmas.List.Elements.{All-head, All-tail}
use Rattle.cell_num.specs.declared.finger.Row.TheVariants.{P, N}
use Rattle.cell_num.specs.declared.net.NetNo.{NetNo}
use Rattle.cell_num.specs.declared.finger.Finger.{Finger}
use Rattle.row_model.specs.declared.column.Placed.{Placed}
use Rattle.row_model.specs.declared.column.Column.{Column}
use Rattle.cell_num.specs.Fingers.{on_gate}
use Rattle.row_model.specs.Arrangement.{fingers_in, IsColumn, AreOneColumn}
use Rattle.std.specs.List.{cons_option}
use Rattle.row_state.specs.Gates.{OneDiffers, gate_here, gate_other, most, one_differs, sum_below_same}
use Rattle.row_state.specs.Steps.{HalfMayStand}
use Rattle.row_state.proofs.Left.{with_place}

pub most_same : (xs xs' ys ys' : List Finger) (nets : ℕ) → IsPermutation xs xs' → IsPermutation ys ys' → most xs ys nets ≡ most xs' ys' nets
most_same xs xs' ys ys' nets hx hy =
    sum_below_same _ _ nets (λ g. let a : on_gate g xs' ≡ on_gate g xs = sum_by-IsPermutation (λ f. cond (f.gate.0 == g) 1 0) xs xs' hx in let b : on_gate g ys' ≡ on_gate g ys = sum_by-IsPermutation (λ f. cond (f.gate.0 == g) 1 0) ys ys' hy in rw (a, b) refl)

-- what a column adds: one at most, and one exactly where it may stand and its gate is a net
pub record Adds (m m' : ℕ) (within : Type 0) (stands : Type 0) : Type 0 where
  pub most_one : m' ≤ m + 1
  pub may_stand : m' ≡ m + 1 → stands
  pub one : within → stands → m' ≡ m + 1

half_adds : (nets g a a' b m' m : ℕ) → a' ≡ 1 + a → (g < nets → m' + max a b ≡ m + max a' b) → (nets ≤ g → m' ≡ m) → Adds m m' (g < nets) (b < a')
half_adds nets g a a' b m' m ea w o =
    elim (cases_lt g nets) [
      | inl l ↦ let e = w l in record { most_one = omega (arith, e); may_stand = λ q. omega (arith, e); one = λ l s. omega (arith, e) }
      | inr l ↦ let e = o l in record { most_one = omega (arith, e); may_stand = λ q. absurd (omega (arith, e)); one = λ l s. absurd (omega arith) }
    ]

half_adds_other : (nets g a a' b m' m : ℕ) → a' ≡ 1 + a → (g < nets → m' + max b a ≡ m + max b a') → (nets ≤ g → m' ≡ m) → Adds m m' (g < nets) (b < a')
half_adds_other nets g a a' b m' m ea w o =
    elim (cases_lt g nets) [
      | inl l ↦ let e = w l in record { most_one = omega (arith, e); may_stand = λ q. omega (arith, e); one = λ l s. omega (arith, e) }
      | inr l ↦ let e = o l in record { most_one = omega (arith, e); may_stand = λ q. absurd (omega (arith, e)); one = λ l s. absurd (omega arith) }
    ]

pair_adds : (nets g a a' b b' m' m : ℕ) → a' ≡ 1 + a → b' ≡ 1 + b → (g < nets → m' + max a b ≡ m + max a' b') → (nets ≤ g → m' ≡ m) → Adds m m' (g < nets) (Unit {0})
pair_adds nets g a a' b b' m' m ea eb w o =
    elim (cases_lt g nets) [
      | inl l ↦ let e = w l in record { most_one = omega (arith, e); may_stand = λ q. tt; one = λ l s. omega (arith, e) }
      | inr l ↦ let e = o l in record { most_one = omega (arith, e); may_stand = λ q. tt; one = λ l s. absurd (omega arith) }
    ]

-- the gate of a column is a net
abbrev pub GateWithin : Option Placed → Option Placed → ℕ → Type 0
GateWithin (Some x) y nets = x.finger.gate.0 < nets
GateWithin None (Some y) nets = y.finger.gate.0 < nets
GateWithin None None nets = ⊥

pub adds : (x y : Option Placed) (xs ys : List Finger) (nets : ℕ) → AreOneColumn x y → Adds (most xs ys nets) (most (with_place x xs) (with_place y ys) nets) (GateWithin x y nets) (HalfMayStand x y (λ g. on_gate g (with_place x xs)) (λ g. on_gate g (with_place y ys)))
adds None None xs ys nets h = absurd h
adds (Some x) None xs ys nets h =
    let g : ℕ = x.finger.gate.0 in
    let f' : ℕ → ℕ = λ g. max (on_gate g (x.finger ∷ xs)) (on_gate g ys) in
    let f : ℕ → ℕ = λ g. max (on_gate g xs) (on_gate g ys) in
    let d : OneDiffers f' f nets g = one_differs f' f nets g (λ u ne. rw (gate_other u x.finger xs ne) refl) in
    half_adds nets g (on_gate g xs) (on_gate g (x.finger ∷ xs)) (on_gate g ys) (most (x.finger ∷ xs) ys nets) (most xs ys nets) (gate_here x.finger xs) d.within d.beyond
adds None (Some y) xs ys nets h =
    let g : ℕ = y.finger.gate.0 in
    let f' : ℕ → ℕ = λ g. max (on_gate g xs) (on_gate g (y.finger ∷ ys)) in
    let f : ℕ → ℕ = λ g. max (on_gate g xs) (on_gate g ys) in
    let d : OneDiffers f' f nets g = one_differs f' f nets g (λ u ne. rw (gate_other u y.finger ys ne) refl) in
    half_adds_other nets g (on_gate g ys) (on_gate g (y.finger ∷ ys)) (on_gate g xs) (most xs (y.finger ∷ ys) nets) (most xs ys nets) (gate_here y.finger ys) d.within d.beyond
adds (Some x) (Some y) xs ys nets h =
    let g : ℕ = x.finger.gate.0 in
    let f' : ℕ → ℕ = λ g. max (on_gate g (x.finger ∷ xs)) (on_gate g (y.finger ∷ ys)) in
    let f : ℕ → ℕ = λ g. max (on_gate g xs) (on_gate g ys) in
    let gate : g ≡ y.finger.gate.0 = ap (λ (n : NetNo). n.0) h.0 in
    let d : OneDiffers f' f nets g = one_differs f' f nets g (λ u ne. rw (gate_other u x.finger xs ne, gate_other u y.finger ys (λ e. ne (e ∙ sym gate))) refl) in
    let here : on_gate g (y.finger ∷ ys) ≡ 1 + on_gate g ys = subst (λ u. on_gate u (y.finger ∷ ys) ≡ 1 + on_gate u ys) (sym gate) (gate_here y.finger ys) in
    pair_adds nets g (on_gate g xs) (on_gate g (x.finger ∷ xs)) (on_gate g ys) (on_gate g (y.finger ∷ ys)) (most (x.finger ∷ xs) (y.finger ∷ ys) nets) (most xs ys nets) (gate_here x.finger xs) here d.within d.beyond

pub most_none : (nets : ℕ) → most [] [] nets ≡ 0
most_none zero = refl
most_none (suc n) = omega (arith, most_none n)

pub placed_cons : (x : Option Placed) (fs : List Finger) → cons_option (option_map (λ (y : Placed). y.finger) x) fs ≡ with_place x fs
placed_cons None fs = refl
placed_cons (Some x) fs = refl

-- a list of columns has as many as its fingers need
pub few : (cs : List Column) (nets : ℕ) → All IsColumn cs → most (fingers_in P cs) (fingers_in N cs) nets ≤ length cs
few [] nets h = omega (arith, most_none nets)
few (c ∷ cs) nets h =
    let a : Adds (most (fingers_in P cs) (fingers_in N cs) nets) (most (with_place c.p (fingers_in P cs)) (with_place c.n (fingers_in N cs)) nets) _ _ = adds c.p c.n (fingers_in P cs) (fingers_in N cs) nets (All-head IsColumn c cs h) in
    let same : most (fingers_in P (c ∷ cs)) (fingers_in N (c ∷ cs)) nets ≡ most (with_place c.p (fingers_in P cs)) (with_place c.n (fingers_in N cs)) nets = rw (placed_cons c.p (fingers_in P cs), placed_cons c.n (fingers_in N cs)) refl in
    omega (arith, a.most_one, same, few cs nets (All-tail IsColumn c cs h))
