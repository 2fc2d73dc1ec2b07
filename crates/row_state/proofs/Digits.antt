-- What the candidates for the next column and their digits say of a state.
use Rattle.std.specs.Prelude.{ℕ, zero, suc, ◌≡◌, ◌↔◌, ◌+◌, ◌-◌, ◌*◌, ◌<◌, ◌≤◌, ◌&&◌, List, [], ◌∷◌, ◌++◌, length, take, get_or, Option, Some, None, All, Contains, IfSome, IsTrue, slice_index}
use Rattle.std.specs.Option.{option_map}
use Rattle.std.proofs.Common.{refl, sym, ap, subst, arith, ◌∙◌, inl, inr, mul-le-mul}
use Rattle.std.proofs.Math.Nat.{mul-le-mul_left}
use Rattle.std.proofs.lemmas.Bool.{and_from, and_parts, cases_lt, lt-ltb, ltb-true}
use Rattle.std.proofs.lemmas.List.{map-append, take_more}
use Rattle.std.proofs.lemmas.List.Elements.{All-push}
use Rattle.std.proofs.lemmas.Nat.{mul-add-lt}
use Rattle.cell_num.specs.declared.finger.Row.TheVariants.{P, N}
use Rattle.cell_num.specs.Fingers.{on_gate}
use Rattle.row_model.specs.declared.column.Column.{Column}
use Rattle.row_model.specs.declared.column.Placed.{Placed}
use Rattle.row_model.specs.Gaps.{right_net}
use Rattle.row_state.specs.declared.kind.Kind.{Kind}
use Rattle.row_state.specs.declared.kind.Kinds.{Kinds}
use Rattle.row_state.specs.declared.state.State.{State}
use Rattle.row_state.specs.declared.step.Side.{Side}
use Rattle.row_state.specs.declared.step.Step.{Step}
use Rattle.row_state.specs.declared.candidate.Candidate.{Candidate}
use Rattle.row_state.specs.declared.numbered.Numbered.{Numbered}
use Rattle.row_state.specs.Candidates.{AreCandidates, HaveEachNext, IsCandidate, IsNumbered, candidate_steps, digit_of, ends_of_step, gate_of_candidate, may_stand, rows_of_step, rows_taken, two_digits}
use Rattle.row_state.specs.Code.{count_lists, end_code, state_code}
use Rattle.row_state.specs.Completion.{cost_of, fingers_left}
use Rattle.row_state.specs.Decoded.{Within, end_below, rows_code}
use Rattle.row_state.specs.Order.{gate_key}
use Rattle.row_state.specs.Start.{AreSomeKinds, IsState, counts_of, start_of}
use Rattle.row_state.specs.Steps.{HalfMayStand, IsLeft, IsPossible, Unfolds, column_of, placed_of, state_after}
use Rattle.row_state.specs.Tests.{gate_left, half_test, side_left}
use Rattle.row_state.proofs.Calls.{valid_after}
use Rattle.row_state.proofs.Codes.{lists_some, rows_few}
use Rattle.row_state.proofs.Numbers.{gate_code}
use Rattle.row_state.proofs.StateAfter.{placed_end}
use Rattle.row_state.proofs.Unfold.{Next, unfold_to}
use Rattle.row_state.proofs.Valid.{ends_are_nets, start_valid}

pub lists_take : (kinds : List Kind) (n : ℕ) → count_lists (take n kinds) ≤ count_lists kinds
lists_take kinds zero = omega (arith, lists_some kinds)
lists_take [] (suc n) = omega arith
lists_take (k ∷ ks) (suc n) = mul-le-mul_left (k.count + 1) (lists_take ks n)

side_within : (kinds : List Kind) (left : List ℕ) (side : Option Side) → IsLeft kinds left side → IfSome side (λ x. x.kind < length kinds)
side_within kinds left None h = tt
side_within kinds left (Some side) h = h.0

side_same : (m n : ℕ) (side : Option Side) → m ≡ n → IfSome side (λ (x : Side). x.kind < m) → IfSome side (λ x. x.kind < n)
side_same m n side e h = subst (λ z. IfSome side (λ (x : Side). x.kind < z)) e h

-- the kinds of a column that may come first are kinds of the rows
pub first_within : (k : Kinds) (step : Step) → IsPossible k (start_of k) step → IfSome step.p (λ x. x.kind < length k.p) × IfSome step.n (λ x. x.kind < length k.n)
first_within k step h = (side_within k.p (counts_of k.p) step.p h.p, side_within k.n (counts_of k.n) step.n h.n)

pub sides_within : (k : Kinds) (s : State) (c : Candidate) → IsState k s → IsCandidate k c → IfSome c.step.p (λ x. x.kind < length s.p_left) × IfSome c.step.n (λ x. x.kind < length s.n_left)
sides_within k s c valid h =
    let parts = first_within k c.step h.first in
    (side_same (length k.p) (length s.p_left) c.step.p (sym valid.p_kinds) parts.0, side_same (length k.n) (length s.n_left) c.step.n (sym valid.n_kinds) parts.1)

-- the digits fit
pub rows_fit : (k : Kinds) (step : Step) → AreSomeKinds k → IsPossible k (start_of k) step → digit_of k.p step.p * count_lists k.n + digit_of k.n step.n < 18446744073709551616
rows_fit k step some h = omega (arith, rows_few k (start_of k) some (start_valid k), rows_taken k (start_of k) step h)

squares_few : (nets : ℕ) → nets ≤ 256 → (nets + 1) * (nets + 1) ≤ 66049
squares_few nets few = let one : nets + 1 ≤ 257 = omega (arith, few) in let h : (nets + 1) * (nets + 1) ≤ 257 * 257 = mul-le-mul one one in omega (arith, h)

pub nets_few : (k : Kinds) → AreSomeKinds k → (k.nets + 1) * (k.nets + 1) ≤ 66049
nets_few k some = squares_few k.nets some.few_nets

record EndsFit (nets p n : ℕ) : Type 0 where
  pub p_few : p ≤ 256
  pub n_few : n ≤ 256
  pub both : p * (nets + 1) + n < 66049

ends_below_squares : (nets p n : ℕ) → nets ≤ 256 → p < nets + 1 → n < nets + 1 → EndsFit nets p n
ends_below_squares nets p n few lp ln =
    let less : p * (nets + 1) + n < (nets + 1) * (nets + 1) = mul-add-lt p (nets + 1) n (nets + 1) lp ln in
    record { p_few = omega (arith, lp, few); n_few = omega (arith, ln, few); both = omega (arith, less, squares_few nets few) }

ends_of : (k : Kinds) (step : Step) → AreSomeKinds k → EndsFit k.nets (end_code (option_map right_net (placed_of P k.p step.p))) (end_code (option_map right_net (placed_of N k.n step.n)))
ends_of k step some =
    let nets = ends_are_nets k some in
    ends_below_squares k.nets (end_code (option_map right_net (placed_of P k.p step.p))) (end_code (option_map right_net (placed_of N k.n step.n))) some.few_nets (end_below k.nets (option_map right_net (placed_of P k.p step.p)) (placed_end P k.p step.p k.nets nets.p)) (end_below k.nets (option_map right_net (placed_of N k.n step.n)) (placed_end N k.n step.n k.nets nets.n))

pub ends_fit : (k : Kinds) (step : Step) (c : Column) → AreSomeKinds k → c ≡ column_of k step → (end_code (option_map right_net c.p) ≤ 256) × (end_code (option_map right_net c.n) ≤ 256) × (end_code (option_map right_net c.p) * (k.nets + 1) + end_code (option_map right_net c.n) < 66049)
ends_fit k step c some e =
    let h = ends_of k step some in
    subst (λ (z : Column). (end_code (option_map right_net z.p) ≤ 256) × (end_code (option_map right_net z.n) ≤ 256) × (end_code (option_map right_net z.p) * (k.nets + 1) + end_code (option_map right_net z.n) < 66049)) (sym e) (h.p_few, h.n_few, h.both)

pub ends_are : (k : Kinds) (step : Step) (c : Column) → c ≡ column_of k step → end_code (option_map right_net c.p) * (k.nets + 1) + end_code (option_map right_net c.n) ≡ ends_of_step k step
ends_are k step c e = ap (λ (z : Column). end_code (option_map right_net z.p) * (k.nets + 1) + end_code (option_map right_net z.n)) e

-- a finger is left for a place
left_decides : (kinds : List Kind) (left : List ℕ) (side : Option Side) → IfSome side (λ x. x.kind < length kinds) → IsTrue (side_left left side) ↔ IsLeft kinds left side
left_decides kinds left None h = ((λ _. tt), (λ _. refl))
left_decides kinds left (Some side) h = ((λ yes. (h, ltb-true 0 (slice_index left side.kind) yes)), (λ there. lt-ltb 0 (slice_index left side.kind) there.1))

half_decides : (x y : Option Placed) (p n : ℕ → ℕ) → IsTrue (half_test x y (p (gate_key x y)) (n (gate_key x y))) ↔ HalfMayStand x y p n
half_decides (Some x) (Some y) p n = ((λ _. tt), (λ _. refl))
half_decides (Some x) None p n = ((λ yes. ltb-true (n x.finger.gate.0) (p x.finger.gate.0) yes), (λ less. lt-ltb (n x.finger.gate.0) (p x.finger.gate.0) less))
half_decides None (Some y) p n = ((λ yes. ltb-true (p y.finger.gate.0) (n y.finger.gate.0) yes), (λ less. lt-ltb (p y.finger.gate.0) (n y.finger.gate.0) less))
half_decides None None p n = ((λ _. tt), (λ _. refl))

half_same : (x y : Option Placed) (p n q m : ℕ → ℕ) → ((g : ℕ) → p g ≡ q g) → ((g : ℕ) → n g ≡ m g) → HalfMayStand x y p n → HalfMayStand x y q m
half_same (Some x) (Some y) p n q m ep en h = tt
half_same (Some x) None p n q m ep en h = omega (arith, h, ep x.finger.gate.0, en x.finger.gate.0)
half_same None (Some y) p n q m ep en h = omega (arith, h, ep y.finger.gate.0, en y.finger.gate.0)
half_same None None p n q m ep en h = tt

abbrev HalfStands : Kinds → State → Column → Type 0
HalfStands k s c = HalfMayStand c.p c.n (λ gate. on_gate gate (fingers_left P k.p s.p_left)) (λ gate. on_gate gate (fingers_left N k.n s.n_left))

half_stands_decides : (k : Kinds) (s : State) (c : Candidate) → IsTrue (half_test c.column.p c.column.n (gate_left k.p s.p_left (gate_of_candidate c)) (gate_left k.n s.n_left (gate_of_candidate c))) ↔ HalfStands k s c.column
half_stands_decides k s c =
    let test = half_decides c.column.p c.column.n (gate_left k.p s.p_left) (gate_left k.n s.n_left) in (
      (λ yes. half_same c.column.p c.column.n (gate_left k.p s.p_left) (gate_left k.n s.n_left) (λ gate. on_gate gate (fingers_left P k.p s.p_left)) (λ gate. on_gate gate (fingers_left N k.n s.n_left)) (λ g. sym (gate_code P k.p s.p_left g)) (λ g. sym (gate_code N k.n s.n_left g)) (test.0 yes)),
      (λ h. test.1 (half_same c.column.p c.column.n (λ gate. on_gate gate (fingers_left P k.p s.p_left)) (λ gate. on_gate gate (fingers_left N k.n s.n_left)) (gate_left k.p s.p_left) (gate_left k.n s.n_left) (gate_code P k.p s.p_left) (gate_code N k.n s.n_left) h)),
    )

pub stands_decide : (k : Kinds) (at : Numbered) (c : Candidate) → IsNumbered k at → IsCandidate k c → IsTrue (may_stand k at.state c) ↔ IsPossible k at.state c.step
stands_decide k at c numbered h =
    let s : State = at.state in
    let within = first_within k c.step h.first in
    let p = left_decides k.p s.p_left c.step.p within.0 in
    let n = left_decides k.n s.n_left c.step.n within.1 in
    let half = half_stands_decides k s c in (
      (λ yes.
          let parts = and_parts (side_left s.p_left c.step.p && side_left s.n_left c.step.n) (half_test c.column.p c.column.n (gate_left k.p s.p_left (gate_of_candidate c)) (gate_left k.n s.n_left (gate_of_candidate c))) yes in
          let sides = and_parts (side_left s.p_left c.step.p) (side_left s.n_left c.step.n) parts.0 in
          record { p = p.0 sides.0; n = n.0 sides.1; column = h.first.column; half = subst (HalfStands k s) h.column (half.0 parts.1) }),
      (λ possible.
          and_from (side_left s.p_left c.step.p && side_left s.n_left c.step.n) (half_test c.column.p c.column.n (gate_left k.p s.p_left (gate_of_candidate c)) (gate_left k.n s.n_left (gate_of_candidate c)))
          (and_from (side_left s.p_left c.step.p) (side_left s.n_left c.step.n) (p.1 possible.p) (n.1 possible.n))
          (half.1 (subst (HalfStands k s) (sym h.column) possible.half))),
    )

pub cost_is : (k : Kinds) (s : State) (c : Candidate) → IsCandidate k c → cost_of s c.column ≡ cost_of s (column_of k c.step)
cost_is k s c h = ap (cost_of s) h.column

-- the fingers of the column are taken off
pub counts_less : (k : Kinds) (at : Numbered) (c : Candidate) → IsNumbered k at → IsCandidate k c → IsPossible k at.state c.step → (c.rows ≤ at.counts) × (at.counts - c.rows ≡ rows_code k (state_after k at.state c.step))
counts_less k at c numbered h possible =
    let taken : rows_code k at.state ≡ rows_code k (state_after k at.state c.step) + rows_of_step k c.step = rows_taken k at.state c.step possible in
    (omega (arith, taken, numbered.counts, h.rows), omega (arith, taken, numbered.counts, h.rows))

pub code_fits : (k : Kinds) (counts : ℕ) → AreSomeKinds k → counts < 18446744073709551616 → counts * ((k.nets + 1) * (k.nets + 1)) < 1218388999324442174685184
code_fits k counts some less =
    let most : counts ≤ 18446744073709551615 = omega (arith, less) in
    let h : counts * ((k.nets + 1) * (k.nets + 1)) ≤ 18446744073709551615 * 66049 = mul-le-mul most (nets_few k some) in
    omega (arith, h)

pub ends_few : (k : Kinds) (c : Candidate) → AreSomeKinds k → IsCandidate k c → c.ends < 66049
ends_few k c some h = omega (arith, h.ends, (ends_of k c.step some).both)

pub code_from : (k : Kinds) (s : State) (c : Candidate) (counts : ℕ) → IsCandidate k c → counts ≡ rows_code k (state_after k s c.step) → counts * ((k.nets + 1) * (k.nets + 1)) + c.ends ≡ state_code k (state_after k s c.step)
code_from k s c counts h e =
    ap (λ n. n * ((k.nets + 1) * (k.nets + 1)) + c.ends) e
    ∙ ap (λ n. rows_code k (state_after k s c.step) * ((k.nets + 1) * (k.nets + 1)) + n) h.ends
    ∙ sym (two_digits (rows_code k (state_after k s c.step)) (k.nets + 1) (end_code (option_map right_net (placed_of P k.p c.step.p))) (end_code (option_map right_net (placed_of N k.n c.step.n))))

pub numbered_behind : (k : Kinds) (s next : State) (step : Step) (counts code : ℕ) → AreSomeKinds k → IsState k s → IsPossible k s step → next ≡ state_after k s step → counts ≡ rows_code k (state_after k s step) → code ≡ state_code k (state_after k s step) → IsNumbered k (record { state = next; counts = counts; code = code })
numbered_behind k s next step counts code some valid possible e counted coded =
    record {
      valid = subst (IsState k) (sym e) (valid_after k s step some valid possible);
      counts = counted ∙ ap (rows_code k) (sym e);
      code = coded ∙ ap (state_code k) (sym e);
    }

-- what may come next in some state may come first
left_first : (ks : List Kind) (cs : List ℕ) (i : ℕ) → Within ks cs → i < length ks → 0 < slice_index cs i → 0 < slice_index (counts_of ks) i
left_first [] cs i h l some = absurd (omega (arith, l))
left_first (k ∷ ks) [] i h l some = absurd (omega (arith, some))
left_first (k ∷ ks) (c ∷ cs) zero h l some = let here : c ≤ k.count = h zero k refl in omega (arith, here, some)
left_first (k ∷ ks) (c ∷ cs) (suc i) h l some = left_first ks cs i (λ j kind is. h (suc j) kind is) (omega (arith, l)) some

side_first : (ks : List Kind) (cs : List ℕ) (side : Option Side) → Within ks cs → IsLeft ks cs side → IsLeft ks (counts_of ks) side
side_first ks cs None h there = tt
side_first ks cs (Some side) h there = (there.0, left_first ks cs side.kind h there.0 there.1)

half_first : (x y : Option Placed) (p n p0 n0 : ℕ → ℕ) → ((g : ℕ) → (n0 g ≤ p0 g → n g ≤ p g) × (p0 g ≤ n0 g → p g ≤ n g)) → HalfMayStand x y p n → HalfMayStand x y p0 n0
half_first (Some x) (Some y) p n p0 n0 lead h = tt
half_first (Some x) None p n p0 n0 lead h = elim (cases_lt (n0 x.finger.gate.0) (p0 x.finger.gate.0)) [ inl less ↦ less | inr le ↦ absurd (omega (arith, (lead x.finger.gate.0).1 le, h)) ]
half_first None (Some y) p n p0 n0 lead h = elim (cases_lt (p0 y.finger.gate.0) (n0 y.finger.gate.0)) [ inl less ↦ less | inr le ↦ absurd (omega (arith, (lead y.finger.gate.0).0 le, h)) ]
half_first None None p n p0 n0 lead h = tt

pub possible_first : (k : Kinds) (s : State) (step : Step) → IsState k s → IsPossible k s step → IsPossible k (start_of k) step
possible_first k s step valid h =
    record {
      p = side_first k.p s.p_left step.p valid.p_counts h.p;
      n = side_first k.n s.n_left step.n valid.n_counts h.n;
      column = h.column;
      half = half_first (placed_of P k.p step.p) (placed_of N k.n step.n) (λ gate. on_gate gate (fingers_left P k.p s.p_left)) (λ gate. on_gate gate (fingers_left N k.n s.n_left)) (λ gate. on_gate gate (fingers_left P k.p (counts_of k.p))) (λ gate. on_gate gate (fingers_left N k.n (counts_of k.n))) valid.lead h.half;
    }

-- so each possible next column is among the candidates
pub among_candidates : (k : Kinds) (all : List Candidate) (s : State) (step : Step) → AreCandidates k all → IsState k s → IsPossible k s step → Contains (candidate_steps all) step
among_candidates k all s step are valid possible = are.steps.all step (possible_first k s step valid possible)

pub each_next : (k : Kinds) (all : List Candidate) → AreCandidates k all → HaveEachNext k (candidate_steps all)
each_next k all are s step = among_candidates k all s step are

-- and each completion of a valid state begins with one
pub candidates_unfold : (k : Kinds) (all : List Candidate) → AreCandidates k all → (s : State) → IsState k s → Unfolds k s (candidate_steps all)
candidates_unfold k all are s valid c cs h =
    let next : Next k s c cs = unfold_to k s c cs h in
    (next.step, among_candidates k all s next.step are valid next.possible, next.is, next.rest)

-- one candidate more
pub candidates_more : (k : Kinds) (all more : List Candidate) (c : Candidate) (items : List Step) (i : ℕ) (d : Step) → All (IsCandidate k) all × (candidate_steps all ≡ take i items) → more ≡ all ++ c ∷ [] → IsCandidate k c → c.step ≡ get_or items i d → i < length items → All (IsCandidate k) more × (candidate_steps more ≡ take (i + 1) items)
candidates_more k all more c items i d h pushed here is within = (
  subst (All (IsCandidate k)) (sym pushed) (All-push (IsCandidate k) all c h.0 here),
  ap candidate_steps pushed
      ∙ map-append (λ (x : Candidate). x.step) all (c ∷ [])
      ∙ ap (λ (xs : List Step). xs ++ c.step ∷ []) h.1
      ∙ ap (λ (x : Step). take i items ++ x ∷ []) is
      ∙ sym (take_more items i d within),
)
