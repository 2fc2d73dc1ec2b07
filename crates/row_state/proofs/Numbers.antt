-- The numbers that the code computes from the kinds are those of the fingers left.
use Rattle.std.proofs.Common.{ℕ, zero, suc, ◌≡◌, ◌+◌, ◌%◌, Bool, cond, true, false, not, ◌&&◌, ◌==◌, List, [], ◌∷◌, replicate, zip, inl, inr, refl, sym, ap, arith, ◌∙◌, sum_by, count_by}
use Rattle.std.proofs.lemmas.Bool.{cases_Bool, cases_eq, eq-eqb, ne_eqb}
use Rattle.std.proofs.lemmas.List.Sums.{sum_by-cons, sum_by-append}
use Rattle.cell_num.specs.declared.finger.Row.{Row}
use Rattle.cell_num.specs.declared.finger.Finger.{Finger}
use Rattle.cell_num.specs.Fingers.{on_gate}
use Rattle.row_state.specs.declared.kind.Kind.{Kind}
use Rattle.row_state.specs.Completion.{fingers_left, finger_of}
use Rattle.row_state.specs.Parity.{parity, ends_on, is_odd}
use Rattle.row_state.specs.Tests.{adds_odd, left_of_kind}

flip : Bool → Bool → Bool
flip a b = cond a (not b) b

parity_add : (a b : ℕ) → parity (a + b) ≡ flip (parity a) (parity b)
unfolding flip
parity_add zero b = let e : 0 + b ≡ b = omega arith in ap parity e
parity_add (suc a) b = let e : suc a + b ≡ suc (a + b) = omega arith in ap parity e ∙ ap not (parity_add a b) ∙ turned (parity a) (parity b)
  where
    turned : (x y : Bool) → not (cond x (not y) y) ≡ cond (not x) (not y) y
    turned true true = refl
    turned true false = refl
    turned false true = refl
    turned false false = refl

pub parity_mod : (n : ℕ) → ((n % 2) == 1) ≡ parity n
parity_mod zero = refl
parity_mod (suc n) =
    elim (cases_eq (n % 2) 1) [
      | inl odd ↦ let e : suc n % 2 ≡ 0 = omega arith in ap (λ m. m == 1) e ∙ ap not (sym (eq-eqb (n % 2) 1 odd) ∙ parity_mod n)
      | inr even ↦ let e : suc n % 2 ≡ 1 = omega arith in ap (λ m. m == 1) e ∙ ap not (sym (ne_eqb (n % 2) 1 even) ∙ parity_mod n)
    ]

-- so many fingers of the kind add an odd number to the net's degree

ends_parity : (a b : Bool) → parity (cond a 1 0 + cond b 1 0) ≡ cond a (not b) b
ends_parity true true = refl
ends_parity true false = refl
ends_parity false true = refl
ends_parity false false = refl

kind_parity : (u c : ℕ) (f : Finger) → parity (sum_by (ends_on u) (replicate c f)) ≡ parity c && parity (ends_on u f)
unfolding flip
kind_parity u zero f = refl
kind_parity u (suc c) f = ap parity (sum_by-cons (ends_on u) f (replicate c f)) ∙ parity_add (ends_on u f) (sum_by (ends_on u) (replicate c f)) ∙ ap (λ z. cond (parity (ends_on u f)) (not z) z) (kind_parity u c f) ∙ once (parity (ends_on u f)) (parity c)
  where
    once : (x y : Bool) → cond x (not (y && x)) (y && x) ≡ not y && x
    once true true = refl
    once true false = refl
    once false true = refl
    once false false = refl

bit_parity : (b : Bool) → parity (cond b 1 0) ≡ b
bit_parity true = refl
bit_parity false = refl

pub odd_code : (row : Row) (kinds : List Kind) (left : List ℕ) (u : ℕ) → is_odd (fingers_left row kinds left) u ≡ parity (count_by (adds_odd u) (zip kinds left))
unfolding flip
odd_code row [] left u = refl
odd_code row (k ∷ ks) [] u = refl
odd_code row (k ∷ ks) (c ∷ cs) u =
    let here : parity (sum_by (ends_on u) (replicate c (finger_of row k))) ≡ adds_odd u (k, c) = kind_parity u c (finger_of row k) ∙ ap (λ z. parity c && z) (ends_parity (u == k.lo.0) (u == k.hi.0)) ∙ ap (λ z. z && (cond (u == k.lo.0) (not (u == k.hi.0)) (u == k.hi.0))) (sym (parity_mod c)) in
    ap parity (sum_by-append (ends_on u) (replicate c (finger_of row k)) (fingers_left row ks cs))
    ∙ parity_add (sum_by (ends_on u) (replicate c (finger_of row k))) (sum_by (ends_on u) (fingers_left row ks cs))
    ∙ ap (λ z. flip z (parity (sum_by (ends_on u) (fingers_left row ks cs)))) (here ∙ sym (bit_parity (adds_odd u (k, c))))
    ∙ ap (λ z. flip (parity (cond (adds_odd u (k, c)) 1 0)) z) (odd_code row ks cs u)
    ∙ sym (parity_add (cond (adds_odd u (k, c)) 1 0) (count_by (adds_odd u) (zip ks cs)))
    ∙ sym (ap parity (sum_by-cons (λ (x : Kind × ℕ). cond (adds_odd u x) 1 0) (k, c) (zip ks cs)))

-- the fingers left on a gate
replicated : (gate c : ℕ) (f : Finger) → on_gate gate (replicate c f) ≡ cond (f.gate.0 == gate) c 0
replicated gate zero f = none (f.gate.0 == gate)
  where
    none : (b : Bool) → ◌≡◌ {A = ℕ} 0 (cond b 0 0)
    none true = refl
    none false = refl
replicated gate (suc c) f = elim (cases_Bool (f.gate.0 == gate)) [
  | inl same ↦
      let a : ◌≡◌ {A = ℕ} (cond (f.gate.0 == gate) 1 0) 1 = rw same refl in
      let b : cond (f.gate.0 == gate) c 0 ≡ c = rw same refl in
      let d : cond (f.gate.0 == gate) (suc c) 0 ≡ suc c = rw same refl in
      omega (arith, a, b, d, replicated gate c f, sum_by-cons (λ (x : Finger). cond (x.gate.0 == gate) 1 0) f (replicate c f))
  | inr differs ↦
      let a : ◌≡◌ {A = ℕ} (cond (f.gate.0 == gate) 1 0) 0 = rw differs refl in
      let b : cond (f.gate.0 == gate) c 0 ≡ 0 = rw differs refl in
      let d : cond (f.gate.0 == gate) (suc c) 0 ≡ 0 = rw differs refl in
      omega (arith, a, b, d, replicated gate c f, sum_by-cons (λ (x : Finger). cond (x.gate.0 == gate) 1 0) f (replicate c f))
]

pub gate_code : (row : Row) (kinds : List Kind) (left : List ℕ) (gate : ℕ) → on_gate gate (fingers_left row kinds left) ≡ sum_by (left_of_kind gate) (zip kinds left)
gate_code row [] left gate = refl
gate_code row (k ∷ ks) [] gate = refl
gate_code row (k ∷ ks) (c ∷ cs) gate =
    omega (arith, sum_by-append (λ (x : Finger). cond (x.gate.0 == gate) 1 0) (replicate c (finger_of row k)) (fingers_left row ks cs), replicated gate c (finger_of row k), gate_code row ks cs gate, sum_by-cons (left_of_kind gate) (k, c) (zip ks cs))
