-- Fingers on gates, summed over the gates.
use Rattle.std.specs.Prelude.{ℕ, zero, suc, ◌≡◌, ◌+◌, ◌<◌, ◌≤◌, max, cond, ◌==◌, List, ◌∷◌}
use Rattle.std.proofs.Common.{refl, sym, ap, arith, inl, inr}
use Rattle.std.proofs.lemmas.Bool.{cases_eq, eq-eqb, ne_eqb}
use Rattle.cell_num.specs.declared.finger.Finger.{Finger}
use Rattle.cell_num.specs.Fingers.{on_gate, sum_below}
use Rattle.cell_num.proofs.Permutations.{count_cons}

-- the columns that two lists of fingers need
abbrev pub most : List Finger → List Finger → ℕ → ℕ
most xs ys nets = sum_below (λ gate. max (on_gate gate xs) (on_gate gate ys)) nets

-- sums whose terms agree but at one place
pub record OneDiffers (f h : ℕ → ℕ) (n at : ℕ) : Type 0 where
  pub within : at < n → sum_below f n + h at ≡ sum_below h n + f at
  pub beyond : n ≤ at → sum_below f n ≡ sum_below h n

pub one_differs : (f h : ℕ → ℕ) (n at : ℕ) → ((g : ℕ) → (g ≡ at → ⊥) → f g ≡ h g) → OneDiffers f h n at
one_differs f h zero at same = record { within = λ l. absurd (omega arith); beyond = λ l. refl }
one_differs f h (suc n) at same =
    let r : OneDiffers f h n at = one_differs f h n at same in
    elim (cases_eq n at) [
      | inl e ↦
          let parts : sum_below f n ≡ sum_below h n = r.beyond (omega arith) in
          record { within = λ l. omega (arith, parts, ap f e, ap h e); beyond = λ l. absurd (omega arith) }
      | inr ne ↦
          let here : f n ≡ h n = same n (λ x. ne x) in
          record {
            within = λ l. let w : sum_below f n + h at ≡ sum_below h n + f at = r.within (omega arith) in
                omega (arith, w, here);
            beyond = λ l. let b : sum_below f n ≡ sum_below h n = r.beyond (omega arith) in omega (arith, b, here);
          }
    ]

pub sum_below_same : (f h : ℕ → ℕ) (n : ℕ) → ((g : ℕ) → f g ≡ h g) → sum_below f n ≡ sum_below h n
sum_below_same f h zero same = refl
sum_below_same f h (suc n) same = omega (arith, sum_below_same f h n same, same n)

gate_cons : (g : ℕ) (f : Finger) (fs : List Finger) → on_gate g (f ∷ fs) ≡ cond (f.gate.0 == g) 1 0 + on_gate g fs
gate_cons g f fs = count_cons (λ x. x.gate.0 == g) f fs

pub gate_here : (f : Finger) (fs : List Finger) → on_gate f.gate.0 (f ∷ fs) ≡ 1 + on_gate f.gate.0 fs
gate_here f fs =
    let one : ◌≡◌ {A = ℕ} (cond (f.gate.0 == f.gate.0) 1 0) 1 = rw (eq-eqb f.gate.0 f.gate.0 refl) refl in
    omega (arith, gate_cons f.gate.0 f fs, one)

pub gate_other : (g : ℕ) (f : Finger) (fs : List Finger) → (g ≡ f.gate.0 → ⊥) → on_gate g (f ∷ fs) ≡ on_gate g fs
gate_other g f fs ne =
    let none : ◌≡◌ {A = ℕ} (cond (f.gate.0 == g) 1 0) 0 = rw (ne_eqb f.gate.0 g (λ e. ne (sym e))) refl in
    omega (arith, gate_cons g f fs, none)
