-- A test that each gate has a finger in both rows or none.
use Rattle.std.specs.Prelude.{ℕ, ◌≡◌, ◌+◌, ◌≤◌, ◌==◌, ◌&&◌, not, Bool, true, cond, List, [], ◌∷◌, bytes_eq, map}
use Rattle.std.specs.List.{count_by, list_all}
use Rattle.std.proofs.Common.{refl, sym, ap, arith, ◌∙◌, inl, inr}
use Rattle.std.proofs.lemmas.Bool.{and_parts, cases_Bool, eqb-true, not-true}
use Rattle.std.proofs.lemmas.List.Sums.{sum_by-cons}
use Rattle.std.proofs.lemmas.Slice.Eq.{bytes_eq-Decides}
use Rattle.cell_num.specs.declared.finger.Finger.{Finger}
use Rattle.cell_num.specs.declared.finger.Fingers.{Fingers}
use Rattle.cell_num.specs.Fingers.{on_gate}

abbrev gates_of : List Finger → List ℕ
gates_of fingers = map (λ (f : Finger). f.gate.0) fingers

abbrev is_other : ℕ → ℕ → Bool
is_other a b = not (b == a)

-- no number stands twice
abbrev are_distinct : List ℕ → Bool
are_distinct [] = true
are_distinct (n ∷ ns) = list_all (is_other n) ns && are_distinct ns

abbrev pub are_pairs : Fingers → Bool
are_pairs f = are_distinct (gates_of f.p) && bytes_eq (gates_of f.n) (gates_of f.p)

abbrev how_often : ℕ → List ℕ → ℕ
how_often n ns = count_by (λ m. m == n) ns

often_cons : (n m : ℕ) (ns : List ℕ) → how_often n (m ∷ ns) ≡ cond (m == n) 1 0 + how_often n ns
often_cons n m ns = sum_by-cons (λ k. cond (k == n) 1 0) m ns

gates_counted : (gate : ℕ) (fingers : List Finger) → on_gate gate fingers ≡ how_often gate (gates_of fingers)
gates_counted gate [] = refl
gates_counted gate (f ∷ fs) = omega (arith, sum_by-cons (λ (x : Finger). cond (x.gate.0 == gate) 1 0) f fs, often_cons gate f.gate.0 (gates_of fs), gates_counted gate fs)

never : (n : ℕ) (ns : List ℕ) → list_all (is_other n) ns ≡ true → how_often n ns ≡ 0
never n [] h = refl
never n (m ∷ ns) h =
    let parts = and_parts (is_other n m) (list_all (is_other n) ns) h in
    let none : ◌≡◌ {A = ℕ} (cond (m == n) 1 0) 0 = rw (not-true (m == n) parts.0) refl in
    omega (arith, often_cons n m ns, none, never n ns parts.1)

once : (n : ℕ) (ns : List ℕ) → are_distinct ns ≡ true → how_often n ns ≤ 1
once n [] h = omega arith
once n (m ∷ ns) h = by_first (and_parts (list_all (is_other m) ns) (are_distinct ns) h) (λ g. once n ns g)
  where
    by_first : (list_all (is_other m) ns ≡ true) × (are_distinct ns ≡ true) → (are_distinct ns ≡ true → how_often n ns ≤ 1) → how_often n (m ∷ ns) ≤ 1
    by_first parts later = elim (cases_Bool (m == n)) [
      | inl same ↦
          let one : ◌≡◌ {A = ℕ} (cond (m == n) 1 0) 1 = rw same refl in
          let none : how_often n ns ≡ 0 = ap (λ (k : ℕ). how_often k ns) (sym (eqb-true m n same)) ∙ never m ns parts.0 in
          omega (arith, often_cons n m ns, one, none)
      | inr other ↦
          let zero_here : ◌≡◌ {A = ℕ} (cond (m == n) 1 0) 0 = rw other refl in
          omega (arith, often_cons n m ns, zero_here, later parts.1)
    ]

pub single_gates : (f : Fingers) → are_pairs f ≡ true → (gate : ℕ) → on_gate gate f.p ≤ 1
single_gates f h gate =
    let parts = and_parts (are_distinct (gates_of f.p)) (bytes_eq (gates_of f.n) (gates_of f.p)) h in
    omega (arith, gates_counted gate f.p, once gate (gates_of f.p) parts.0)

pub paired_gates : (f : Fingers) → are_pairs f ≡ true → (gate : ℕ) → on_gate gate f.n ≡ on_gate gate f.p
paired_gates f h gate =
    let parts = and_parts (are_distinct (gates_of f.p)) (bytes_eq (gates_of f.n) (gates_of f.p)) h in
    gates_counted gate f.n ∙ (ap (how_often gate) ((bytes_eq-Decides (gates_of f.n) (gates_of f.p)).0 parts.1) ∙ sym (gates_counted gate f.p))
