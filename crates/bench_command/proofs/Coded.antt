-- Each lemma of a search of paired fingers has a number.
use Rattle.std.specs.Prelude.{ℕ, ◌≡◌, ◌+◌, ◌-◌, ◌≤◌, ◌==◌, List, [], ◌∷◌, ◌++◌, length, Contains, IsPermutation, Option, Some, cond, slice_index}
use Rattle.std.specs.Option.{option_map}
use Rattle.std.proofs.Common.{refl, sym, ap, subst, arith, ◌∙◌, inl, inr}
use Rattle.std.proofs.lemmas.List.{length-append, length-map}
use Rattle.std.proofs.lemmas.List.Elements.{All-contains, Contains-append_left}
use Rattle.std.proofs.lemmas.List.Sorted.{Contains-permutation, IsPermutation-sym, length_permutation}
use Rattle.std.proofs.lemmas.List.Sums.{sum_by-append}
use Rattle.cell_num.proofs.Lists.{contains_filter_map}
use Rattle.cell_num.specs.declared.finger.Finger.{Finger}
use Rattle.cell_num.specs.declared.finger.Row.{Row}
use Rattle.cell_num.specs.declared.finger.Row.TheVariants.{P, N}
use Rattle.cell_num.specs.declared.net.NetNo.{NetNo}
use Rattle.cell_num.specs.Fingers.{on_gate}
use Rattle.row_model.specs.declared.column.Column.{Column}
use Rattle.row_model.specs.declared.column.Placed.{Placed}
use Rattle.row_model.specs.Arrangement.{AreOneColumn, IsColumn, fingers_in, place}
use Rattle.row_model.specs.Gaps.{right_net}
use Rattle.row_state.specs.declared.kind.Kind.{Kind}
use Rattle.row_state.specs.declared.kind.Kinds.{Kinds}
use Rattle.row_state.specs.declared.state.State.{State}
use Rattle.row_state.specs.Completion.{Completes, left_in}
use Rattle.row_state.specs.Decoded.{same_fields}
use Rattle.row_state.specs.Start.{AreSomeKinds, IsState, columns_left, counts_of, start_of}
use Rattle.row_state.specs.Tests.{gate_left}
use Rattle.row_state.proofs.Exists.{OnGate, completion_exists, on_gate_found}
use Rattle.row_state.proofs.Numbers.{gate_code}
use Rattle.row_state.proofs.Unfold.{gate_perm}
use Rattle.row_state.proofs.Valid.{gates_are_nets, start_valid}
use Rattle.bound_log.specs.declared.log.Lemma.{Lemma}
use Rattle.log_check.specs.Accepted.{IsTrueOf}
use Rattle.row_search.specs.Reached.{IsStateOf, end_behind}
use Rattle.row_search.proofs.Least.{further_le}
use Rattle.row_search.proofs.Reach.{glue}
use Rattle.bench_command.proofs.Bits.{bits, flip, number, without}
use Rattle.bench_command.proofs.Codes.{Behind, IsCode}
use Rattle.bench_command.proofs.Counts.{counts_same, counts_within, left_at}
use Rattle.bench_command.proofs.Gates.{IsFilled, all_filled, last_of, some_on}
use Rattle.bench_command.proofs.FewKinds.{HasPairs, all_n, all_p, same_n_left}

-- a lemma's bound is at most the columns behind its state
bound_few : (k : Kinds) (lemma : Lemma) (prefix rest : List Column) → AreSomeKinds k → IsTrueOf k lemma → Completes k (start_of k) (prefix ++ rest) → IsStateOf k prefix lemma.state → lemma.bound + length prefix ≤ columns_left k (start_of k)
bound_few k lemma prefix rest some true_of completes state =
    let c : (row : List Column) × Completes k lemma.state row = completion_exists k lemma.state (gates_are_nets k some) in
    let whole : Completes k (start_of k) (prefix ++ c.0) = glue k lemma.state prefix rest c.0 completes state c.1 in
    omega (arith, true_of c.0 c.1, further_le lemma.state c.0, whole.fewest, length-append prefix c.0)

-- ---- before the first column

all_left : (k : Kinds) (s : State) → HasPairs k → IsState k s → IsStateOf k [] s → s.p_left ≡ counts_of k.p
all_left k s pairs valid state =
    counts_same k.p s.p_left (counts_of k.p) pairs.p_single pairs.p_some valid.p_kinds counts_length valid.p_counts (counts_within k.p)
    (λ gate. omega (arith, gate_code P k.p s.p_left gate, gate_code P k.p (counts_of k.p) gate, gate_perm gate (all_p k) (left_in k s).p state.p))
  where
    counts_length : length (counts_of k.p) ≡ length k.p
    counts_length = length-map k.p (λ (kind : Kind). kind.count)

start_is : (k : Kinds) (s : State) → HasPairs k → IsState k s → IsStateOf k [] s → s ≡ start_of k
start_is k s pairs valid state =
    let p_left : s.p_left ≡ counts_of k.p = all_left k s pairs valid state in
    same_fields s (start_of k) p_left (same_n_left k s (start_of k) pairs valid (start_valid k) p_left) state.p_end state.n_end

-- ---- behind a column

-- the two fingers of the last column
record Ends (k : Kinds) (prefix : List Column) : Type 0 where
  pub x : Placed
  pub y : Placed
  pub x_listed : Contains (fingers_in P prefix) x.finger
  pub y_listed : Contains (fingers_in N prefix) y.finger
  pub gates : x.finger.gate.0 ≡ y.finger.gate.0
  pub p_end : end_behind P prefix ≡ Some (right_net x)
  pub n_end : end_behind N prefix ≡ Some (right_net y)

one_gate : (a b : Option Placed) (x y : Placed) → a ≡ Some x → b ≡ Some y → AreOneColumn a b → x.finger.gate.0 ≡ y.finger.gate.0
one_gate a b x y first second h =
    let both : AreOneColumn (Some x) (Some y) = subst (λ (z : Option Placed). AreOneColumn (Some x) z) second (subst (λ (z : Option Placed). AreOneColumn z b) first h) in
    ap (λ (net : NetNo). net.0) both.0

abbrev finger_at : Row → Column → Option Finger
finger_at row c = option_map (λ (x : Placed). x.finger) (place row c)

finger_listed : (row : Row) (prefix : List Column) (c : Column) (x : Placed) → Contains prefix c → place row c ≡ Some x → Contains (fingers_in row prefix) x.finger
finger_listed row prefix c x there is = contains_filter_map (finger_at row) prefix c x.finger there (ap (option_map (λ (x : Placed). x.finger)) is)

ends_of : (k : Kinds) (c : Column) (cs rest : List Column) → HasPairs k → Completes k (start_of k) ((c ∷ cs) ++ rest) → Ends k (c ∷ cs)
ends_of k c cs rest pairs h =
    let row = (c ∷ cs) ++ rest in
    let last = last_of c cs in
    let there : Contains row last.column = Contains-append_left (c ∷ cs) rest last.column last.listed in
    let many_p : length row ≤ length (fingers_in P row) = omega (arith, h.fewest, pairs.p_full, length_permutation (all_p k) (fingers_in P row) h.p) in
    let many_n : length row ≤ length (fingers_in N row) = omega (arith, h.fewest, pairs.n_full, length_permutation (all_n k) (fingers_in N row) h.n) in
    let p : IsFilled P last.column = All-contains (IsFilled P) row last.column (all_filled P row many_p) there in
    let n : IsFilled N last.column = All-contains (IsFilled N) row last.column (all_filled N row many_n) there in
    let one : IsColumn last.column = All-contains IsColumn row last.column h.columns there in
    record {
      x = p.0;
      y = n.0;
      x_listed = finger_listed P (c ∷ cs) last.column p.0 last.listed p.1;
      y_listed = finger_listed N (c ∷ cs) last.column n.0 last.listed n.1;
      gates = one_gate last.column.p last.column.n p.0 n.0 p.1 n.1 one;
      p_end = last.ends P ∙ ap (option_map right_net) p.1;
      n_end = last.ends N ∙ ap (option_map right_net) n.1;
    }

listed_in_all : (all left : List Finger) (used : List Finger) (f : Finger) → IsPermutation all (used ++ left) → Contains used f → Contains all f
listed_in_all all left used f h there = Contains-permutation (used ++ left) all f (IsPermutation-sym all (used ++ left) h) (Contains-append_left used left f there)

-- nothing is left on the gate of a finger that is used
none_left : (k : Kinds) (s : State) (prefix : List Column) (f : Finger) → HasPairs k → IsStateOf k prefix s → Contains (fingers_in P prefix) f → gate_left k.p s.p_left f.gate.0 ≡ 0
none_left k s prefix f pairs state there =
    let gate = f.gate.0 in
    let used = fingers_in P prefix in
    let left = (left_in k s).p in
    let whole : on_gate gate (used ++ left) ≡ on_gate gate (all_p k) = gate_perm gate (all_p k) (used ++ left) state.p in
    let parts : on_gate gate (used ++ left) ≡ on_gate gate used + on_gate gate left = sum_by-append (λ (x : Finger). cond (x.gate.0 == gate) 1 0) used left in
    omega (arith, whole, parts, some_on used f there, gate_code P k.p (counts_of k.p) gate, pairs.p_single gate, gate_code P k.p s.p_left gate)

behind : (k : Kinds) (lemma : Lemma) (c : Column) (cs rest : List Column) → HasPairs k → AreSomeKinds k → IsState k lemma.state → IsTrueOf k lemma → 1 ≤ lemma.bound → Completes k (start_of k) ((c ∷ cs) ++ rest) → IsStateOf k (c ∷ cs) lemma.state → (code : ℕ) × Behind k lemma code
behind k lemma c cs rest pairs some valid true_of least completes state =
    let e = ends_of k c cs rest pairs completes in
    let gate = e.x.finger.gate.0 in
    let x_listed = listed_in_all (all_p k) (left_in k lemma.state).p (fingers_in P (c ∷ cs)) e.x.finger state.p e.x_listed in
    let y_listed = listed_in_all (all_n k) (left_in k lemma.state).n (fingers_in N (c ∷ cs)) e.y.finger state.n e.y_listed in
    let on : OnGate k.p (counts_of k.p) gate = on_gate_found P k.p (counts_of k.p) gate (some_on (all_p k) e.x.finger x_listed) in
    let none = none_left k lemma.state (c ∷ cs) e.x.finger pairs state e.x_listed in
    let here : gate_left k.p lemma.state.p_left on.kind.gate.0 ≡ 0 = ap (gate_left k.p lemma.state.p_left) on.gate_is ∙ none in
    let used : slice_index lemma.state.p_left on.at ≡ 0 = omega (arith, left_at k.p lemma.state.p_left on.at on.kind on.is valid.p_kinds, here) in
    let code = number on.at (bits (without on.at lemma.state.p_left)) (flip e.x.flipped) (flip e.y.flipped) (lemma.bound - 1) in (
      code,
      record {
        at = on.at;
        kind = on.kind;
        x = e.x;
        y = e.y;
        kind_is = on.is;
        x_listed = x_listed;
        x_gate = sym on.gate_is;
        y_listed = y_listed;
        y_gate = sym e.gates ∙ sym on.gate_is;
        p_end = state.p_end ∙ e.p_end;
        n_end = state.n_end ∙ e.n_end;
        used = used;
        some = least;
        few = omega (arith, bound_few k lemma (c ∷ cs) rest some true_of completes state, pairs.few);
        is = refl;
      },
    )

pub code_of : (k : Kinds) (lemma : Lemma) (prefix rest : List Column) → HasPairs k → AreSomeKinds k → IsState k lemma.state → IsTrueOf k lemma → 1 ≤ lemma.bound → Completes k (start_of k) (prefix ++ rest) → IsStateOf k prefix lemma.state → (code : ℕ) × IsCode k lemma code
code_of k lemma [] rest pairs some valid true_of least completes state = (
  184320 + (lemma.bound - 1),
  inl (record {
    state = start_is k lemma.state pairs valid state;
    some = least;
    few = omega (arith, bound_few k lemma [] rest some true_of completes state, pairs.few);
    is = refl;
  }),
)
code_of k lemma (c ∷ cs) rest pairs some valid true_of least completes state =
    let b = behind k lemma c cs rest pairs some valid true_of least completes state in
    (b.0, inr b.1)
