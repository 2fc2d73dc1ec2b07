-- The sides on a gate are those of the kinds of the gate, which stand side by side.
use Rattle.std.specs.Prelude.{ℕ, zero, suc, ◌≡◌, ◌≢◌, ◌+◌, ◌<◌, ◌≤◌, List, [], ◌++◌, length, get_or, Option, Some, None, slice_get}
use Rattle.std.proofs.Common.{refl, sym, ap, arith, ◌∙◌, inl, inr}
use Rattle.std.proofs.lemmas.Bool.{cases_eq, eq-eqb, ne_eqb}
use Rattle.std.proofs.lemmas.List.{append-nil, append_assoc}
use Rattle.std.proofs.lemmas.Option.{slice_get-get_or}
use Rattle.row_state.specs.declared.gate.Run.{Run}
use Rattle.row_state.specs.declared.kind.Kind.{Kind}
use Rattle.row_state.specs.declared.step.Side.{Side}
use Rattle.row_state.specs.declared.step.Step.{Step}
use Rattle.row_state.specs.Runs.{GatesFrom, IsRun}
use Rattle.row_state.specs.Tests.{joined_below, sides_of, sides_on, turns_left}

module _ {X : Type 0} where
  pub joined_more : (f : ℕ → List X) (n : ℕ) → joined_below f (n + 1) ≡ joined_below f n ++ f n
  joined_more f n = let e : n + 1 ≡ suc n = omega arith in ap (joined_below f) e

  -- lists without items add nothing
  joined_none : (f : ℕ → List X) (n : ℕ) → ((i : ℕ) → i < n → f i ≡ []) → joined_below f n ≡ []
  joined_none f zero none = refl
  joined_none f (suc n) none = ap (λ xs. xs ++ f n) (joined_none f n (λ i l. none i (omega (arith, l)))) ∙ none n (omega arith)

  joined_same : (f : ℕ → List X) (m n : ℕ) → m ≤ n → ((i : ℕ) → m ≤ i → i < n → f i ≡ []) → joined_below f m ≡ joined_below f n
  joined_same f m zero l none = let e : m ≡ 0 = omega (arith, l) in ap (joined_below f) e
  joined_same f m (suc n) l none = elim (cases_eq m (suc n)) [
    | inl e ↦ ap (joined_below f) e
    | inr ne ↦
        let before : joined_below f m ≡ joined_below f n = joined_same f m n (omega (arith, l, ne)) (λ i a b. none i a (omega (arith, b))) in
        let last : f n ≡ [] = none n (omega (arith, l, ne)) (omega arith) in
        before ∙ sym (ap (λ xs. joined_below f n ++ xs) last ∙ append-nil (joined_below f n))
  ]

blank : Kind
blank = record { gate = record { 0 = 0 }; lo = record { 0 = 0 }; hi = record { 0 = 0 }; width = 0; count = 0 }

off_gate : (gate i : ℕ) (kind : Kind) (c : Option ℕ) → kind.gate.0 ≢ gate → sides_of gate i (Some kind) c ≡ []
off_gate gate i kind None other = refl
off_gate gate i kind (Some count) other = rw (ne_eqb kind.gate.0 gate other) refl

-- where the kind numbered i has another gate
none_at : (kinds : List Kind) (left : List ℕ) (gate i : ℕ) → i < length kinds → (get_or kinds i blank).gate.0 ≢ gate → sides_of gate i (slice_get kinds i) (slice_get left i) ≡ []
none_at kinds left gate i l other = ap (λ o. sides_of gate i o (slice_get left i)) (slice_get-get_or kinds i blank l) ∙ off_gate gate i (get_or kinds i blank) (slice_get left i) other

-- before the kinds of the gate
sides_begin : (kinds : List Kind) (left : List ℕ) (gate at : ℕ) → GatesFrom kinds gate at → joined_below (λ i. sides_of gate i (slice_get kinds i) (slice_get left i)) at ≡ []
sides_begin kinds left gate at h =
    joined_none (λ i. sides_of gate i (slice_get kinds i) (slice_get left i)) at (λ i l. none_at kinds left gate i (omega (arith, l, h.within)) (λ e. omega (arith, e, h.lower i blank l)))

-- behind them
sides_end : (kinds : List Kind) (left : List ℕ) (gate at : ℕ) → GatesFrom kinds (gate + 1) at → joined_below (λ i. sides_of gate i (slice_get kinds i) (slice_get left i)) at ≡ sides_on kinds left gate
sides_end kinds left gate at h =
    joined_same (λ i. sides_of gate i (slice_get kinds i) (slice_get left i)) at (length kinds) h.within (λ i l m. none_at kinds left gate i m (λ e. omega (arith, e, h.rest i blank l m)))

-- at each of them
sides_here : (kinds : List Kind) (left : List ℕ) (gate from to i : ℕ) (k : Kind) (c : ℕ) → GatesFrom kinds gate from → GatesFrom kinds (gate + 1) to → from ≤ i → i < to → length left ≡ length kinds → sides_of gate i (slice_get kinds i) (slice_get left i) ≡ turns_left i (get_or kinds i k) (get_or left i c)
sides_here kinds left gate from to i k c begins ends a b same =
    let within : i < length kinds = omega (arith, b, ends.within) in
    let here : (get_or kinds i k).gate.0 ≡ gate = omega (arith, begins.rest i k a within, ends.lower i k b) in
    rw (slice_get-get_or kinds i k within, slice_get-get_or left i c (omega (arith, within, same)), eq-eqb _ _ here) refl

-- a list of steps that the sides give, the kinds of the gate one by one
module _ (g : List Side → List Step) where
  pub given_none : (steps : List Step) (kinds : List Kind) (left : List ℕ) (gate at : ℕ) → g [] ≡ [] → GatesFrom kinds gate at → steps ≡ steps ++ g (joined_below (λ i. sides_of gate i (slice_get kinds i) (slice_get left i)) at)
  given_none steps kinds left gate at none h = sym (ap (λ xs. steps ++ g xs) (sides_begin kinds left gate at h) ∙ ap (λ xs. steps ++ xs) none ∙ append-nil steps)

  pub given_more : (steps now next : List Step) (kinds ks : List Kind) (left cs : List ℕ) (gate i : ℕ) (run : Run) (k : Kind) (c : ℕ) → ((xs ys : List Side) → g (xs ++ ys) ≡ g xs ++ g ys) → IsRun kinds left gate run → length left ≡ length kinds → run.from ≤ i → i < run.to → ks ≡ kinds → cs ≡ left → now ≡ steps ++ g (joined_below (λ i. sides_of gate i (slice_get kinds i) (slice_get left i)) i) → next ≡ now ++ g (turns_left i (get_or ks i k) (get_or cs i c)) → next ≡ steps ++ g (joined_below (λ i. sides_of gate i (slice_get kinds i) (slice_get left i)) (i + 1))
  given_more steps now next kinds ks left cs gate i run k c joins is same a b ek ec before step =
      let f : ℕ → List Side = λ i. sides_of gate i (slice_get kinds i) (slice_get left i) in
      let here : turns_left i (get_or ks i k) (get_or cs i c) ≡ f i = rw (ek, ec) (sym (sides_here kinds left gate run.from run.to i k c is.begins is.ends a b same)) in
      step
      ∙ ap (λ xs. now ++ g xs) here
      ∙ ap (λ xs. xs ++ g (f i)) before
      ∙ append_assoc steps (g (joined_below f i)) (g (f i))
      ∙ ap (λ xs. steps ++ xs) (sym (joins (joined_below f i) (f i)))
      ∙ ap (λ xs. steps ++ g xs) (sym (joined_more f i))

  pub given_all : (steps now : List Step) (kinds : List Kind) (left : List ℕ) (gate at : ℕ) (run : Run) → IsRun kinds left gate run → (run.from ≤ run.to → at ≤ run.to) → run.to ≤ at → now ≡ steps ++ g (joined_below (λ i. sides_of gate i (slice_get kinds i) (slice_get left i)) at) → now ≡ steps ++ g (sides_on kinds left gate)
  given_all steps now kinds left gate at run h within past is =
      let f : ℕ → List Side = λ i. sides_of gate i (slice_get kinds i) (slice_get left i) in
      let last : at ≤ run.to = within h.order in
      let e : at ≡ run.to = omega (arith, last, past) in
      is ∙ ap (λ n. steps ++ g (joined_below f n)) e ∙ ap (λ xs. steps ++ g xs) (sides_end kinds left gate run.to h.ends)
