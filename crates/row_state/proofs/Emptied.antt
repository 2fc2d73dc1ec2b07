-- The places that stay empty, before a column and behind it.
use Rattle.std.proofs.Common.{ℕ, ◌≡◌, ◌+◌, ◌-◌, ◌≤◌, List, length, Option, Some, None, sym, ap, arith, ◌∙◌}
use Rattle.std.proofs.lemmas.List.Sorted.{length_permutation}
use Rattle.cell_num.specs.declared.finger.Row.{Row}
use Rattle.cell_num.specs.declared.finger.Row.TheVariants.{P, N}
use Rattle.cell_num.specs.declared.finger.Finger.{Finger}
use Rattle.cell_num.specs.Fingers.{on_gate, sum_below}
use Rattle.row_model.specs.declared.column.Placed.{Placed}
use Rattle.row_model.specs.declared.column.Column.{Column}
use Rattle.row_state.specs.declared.kind.Kind.{Kind}
use Rattle.row_state.specs.declared.kind.Kinds.{Kinds}
use Rattle.row_state.specs.declared.state.State.{State}
use Rattle.row_state.specs.declared.step.Side.{Side}
use Rattle.row_state.specs.declared.step.Step.{Step}
use Rattle.row_state.specs.declared.candidate.Candidate.{Candidate}
use Rattle.row_state.specs.declared.empty.EmptyPlaces.{EmptyPlaces}
use Rattle.row_state.specs.Candidates.{IsCandidate}
use Rattle.row_state.specs.Completion.{fingers_left, left_in}
use Rattle.row_state.specs.Degrees.{all_on_gates, empty_places}
use Rattle.row_state.specs.Emptied.{AreEmpty, filled}
use Rattle.row_state.specs.Law.{gates_left, most_turned}
use Rattle.row_state.specs.Parity.{empty_left}
use Rattle.row_state.specs.Start.{AreSomeKinds, columns_left}
use Rattle.row_state.specs.Steps.{IsLeft, IsPossible, left_after, placed_of, state_after}
use Rattle.row_state.specs.Tests.{empty_in, kinds_in, left_of}
use Rattle.row_state.proofs.Calls.{fewer_after}
use Rattle.row_state.proofs.Left.{row_from, with_place}
use Rattle.row_state.proofs.ParityCode.{empty_is}

-- with the fingers left of a row, its empty places are the columns left
empty_and_left : (row : Row) (k : Kinds) (s : State) → AreSomeKinds k → empty_in row s k + length (fingers_left row (kinds_in row k) (left_of row s)) ≡ columns_left k s
empty_and_left P k s some =
    let whole : empty_left (left_in k s).p (left_in k s).n k.nets + sum_below (λ g. on_gate g (left_in k s).p) k.nets ≡ columns_left k s = empty_places (left_in k s).p (left_in k s).n k.nets in
    omega (arith, whole, empty_is P N k.p k.n s.p_left s.n_left k.nets, all_on_gates (left_in k s).p k.nets (gates_left P k.p s.p_left k.nets some.p))
empty_and_left N k s some =
    let whole : empty_left (left_in k s).n (left_in k s).p k.nets + sum_below (λ g. on_gate g (left_in k s).n) k.nets ≡ columns_left k s = empty_places (left_in k s).n (left_in k s).p k.nets ∙ most_turned (left_in k s).n (left_in k s).p k.nets in
    omega (arith, whole, empty_is N P k.n k.p s.n_left s.p_left k.nets, all_on_gates (left_in k s).n k.nets (gates_left N k.n s.n_left k.nets some.n))

with_length : (x : Option Placed) (fs : List Finger) → length (with_place x fs) ≡ length fs + filled x
with_length None fs = omega arith
with_length (Some x) fs = omega arith

filled_le : (x : Option Placed) → filled x ≤ 1
filled_le None = omega arith
filled_le (Some x) = omega arith

-- a column takes a finger of each row whose place it fills
taken_length : (row : Row) (kinds : List Kind) (left : List ℕ) (side : Option Side) → IsLeft kinds left side → length (fingers_left row kinds left) ≡ length (fingers_left row kinds (left_after left side)) + filled (placed_of row kinds side)
taken_length row kinds left side there =
    sym (length_permutation (fingers_left row kinds left) (with_place (placed_of row kinds side) (fingers_left row kinds (left_after left side))) (row_from row kinds left side there))
    ∙ with_length (placed_of row kinds side) (fingers_left row kinds (left_after left side))

one_less : (empty left columns empty_behind left_behind columns_behind place : ℕ) → empty + left ≡ columns → empty_behind + left_behind ≡ columns_behind → columns ≡ columns_behind + 1 → left ≡ left_behind + place → place ≤ 1 → empty - (1 - place) ≡ empty_behind
one_less empty left columns empty_behind left_behind columns_behind place before behind fewer taken few = omega (arith, before, behind, fewer, taken, few)

behind_p : (k : Kinds) (s : State) (step : Step) → AreSomeKinds k → IsPossible k s step → empty_in P s k - (1 - filled (placed_of P k.p step.p)) ≡ empty_in P (state_after k s step) k
behind_p k s step some possible =
    one_less (empty_in P s k) (length (fingers_left P k.p s.p_left)) (columns_left k s) (empty_in P (state_after k s step) k) (length (fingers_left P k.p (left_after s.p_left step.p))) (columns_left k (state_after k s step)) (filled (placed_of P k.p step.p))
    (empty_and_left P k s some) (empty_and_left P k (state_after k s step) some) (fewer_after k s step some possible) (taken_length P k.p s.p_left step.p possible.p) (filled_le (placed_of P k.p step.p))

behind_n : (k : Kinds) (s : State) (step : Step) → AreSomeKinds k → IsPossible k s step → empty_in N s k - (1 - filled (placed_of N k.n step.n)) ≡ empty_in N (state_after k s step) k
behind_n k s step some possible =
    one_less (empty_in N s k) (length (fingers_left N k.n s.n_left)) (columns_left k s) (empty_in N (state_after k s step) k) (length (fingers_left N k.n (left_after s.n_left step.n))) (columns_left k (state_after k s step)) (filled (placed_of N k.n step.n))
    (empty_and_left N k s some) (empty_and_left N k (state_after k s step) some) (fewer_after k s step some possible) (taken_length N k.n s.n_left step.n possible.n) (filled_le (placed_of N k.n step.n))

-- from the places before a column those behind it
pub are_beyond : (k : Kinds) (s : State) (c : Candidate) (empty beyond : EmptyPlaces) → AreSomeKinds k → IsCandidate k c → IsPossible k s c.step → AreEmpty k s empty → beyond.p ≡ empty.p - (1 - filled c.column.p) → beyond.n ≡ empty.n - (1 - filled c.column.n) → AreEmpty k (state_after k s c.step) beyond
are_beyond k s c empty beyond some candidate possible are is_p is_n =
    record {
      p = is_p ∙ (ap (λ m. m - (1 - filled c.column.p)) are.p ∙ (ap (λ (x : Column). empty_in P s k - (1 - filled x.p)) candidate.column ∙ behind_p k s c.step some possible));
      n = is_n ∙ (ap (λ m. m - (1 - filled c.column.n)) are.n ∙ (ap (λ (x : Column). empty_in N s k - (1 - filled x.n)) candidate.column ∙ behind_n k s c.step some possible));
    }
