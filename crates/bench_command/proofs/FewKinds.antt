-- The kinds of paired fingers, and the states of searches of them.
use Rattle.std.specs.Prelude.{ℕ, ◌≡◌, ◌<◌, ◌≤◌, List, [], ◌∷◌, length, max, All, replicate}
use Rattle.std.proofs.Common.{sym, ap, arith, ◌∙◌}
use Rattle.std.proofs.lemmas.List.{length-append, length-replicate}
use Rattle.std.proofs.lemmas.List.Elements.{All-head, All-tail}
use Rattle.cell_num.specs.declared.finger.Finger.{Finger}
use Rattle.cell_num.specs.declared.finger.Fingers.{Fingers}
use Rattle.cell_num.specs.declared.finger.Row.{Row}
use Rattle.cell_num.specs.declared.finger.Row.TheVariants.{P, N}
use Rattle.cell_num.specs.Fingers.{AreFingers, on_gate}
use Rattle.row_state.specs.declared.kind.Kind.{Kind}
use Rattle.row_state.specs.declared.kind.Kinds.{Kinds}
use Rattle.row_state.specs.declared.state.State.{State}
use Rattle.row_state.specs.Completion.{finger_of, fingers_left, left_in}
use Rattle.row_state.specs.Degrees.{all_on_gates}
use Rattle.row_state.specs.Gates.{sum_below_same}
use Rattle.row_state.specs.Start.{AreKinds, AreSomeKinds, IsKind, IsState, columns_left, counts_of, start_of}
use Rattle.row_state.specs.Tests.{gate_left}
use Rattle.row_state.proofs.Numbers.{gate_code}
use Rattle.row_state.proofs.Unfold.{columns_same, gate_perm}
use Rattle.row_state.proofs.Valid.{some_fingers}
use Rattle.cell_num.proofs.Lists.{all_imply}
use Rattle.bench_command.specs.Paired.{ArePaired}
use Rattle.bench_command.proofs.Counts.{AreSingle, HaveFingers, counts_same}

abbrev pub all_p : Kinds → List Finger
all_p k = (left_in k (start_of k)).p

abbrev pub all_n : Kinds → List Finger
all_n k = (left_in k (start_of k)).n

pub record HasPairs (k : Kinds) : Type 0 where
  pub p_single : AreSingle k.p
  pub n_single : AreSingle k.n
  pub same : (gate : ℕ) → gate_left k.n (counts_of k.n) gate ≡ gate_left k.p (counts_of k.p) gate
  pub p_some : HaveFingers k.p
  pub n_some : HaveFingers k.n
  pub few : columns_left k (start_of k) ≤ 10
  pub p_full : length (all_p k) ≡ columns_left k (start_of k)
  pub n_full : length (all_n k) ≡ columns_left k (start_of k)
  pub p_kinds : length k.p ≤ 10

p_on : (f : Fingers) (k : Kinds) (gate : ℕ) → AreKinds f k → gate_left k.p (counts_of k.p) gate ≡ on_gate gate f.p
p_on f k gate kinds = sym (gate_code P k.p (counts_of k.p) gate) ∙ gate_perm gate f.p (all_p k) kinds.p

n_on : (f : Fingers) (k : Kinds) (gate : ℕ) → AreKinds f k → gate_left k.n (counts_of k.n) gate ≡ on_gate gate f.n
n_on f k gate kinds = sym (gate_code N k.n (counts_of k.n) gate) ∙ gate_perm gate f.n (all_n k) kinds.n

-- each gate has a column of its own
full : (k : Kinds) (mine : List Finger) → ((gate : ℕ) → on_gate gate mine ≡ max (on_gate gate (all_p k)) (on_gate gate (all_n k))) → All (λ (f : Finger). f.gate.0 < k.nets) mine → length mine ≡ columns_left k (start_of k)
full k mine same nets =
    sym (all_on_gates mine k.nets (λ i d within. nets i d within)) ∙ sum_below_same (λ gate. on_gate gate mine) (λ gate. max (on_gate gate (all_p k)) (on_gate gate (all_n k))) k.nets same

kinds_le : (row : Row) (kinds : List Kind) → HaveFingers kinds → length kinds ≤ length (fingers_left row kinds (counts_of kinds))
kinds_le row [] some = omega arith
kinds_le row (k ∷ ks) some =
    let here : 0 < k.count = All-head (λ (kind : Kind). 0 < kind.count) k ks some in
    omega (arith, here, length-append (replicate k.count (finger_of row k)) (fingers_left row ks (counts_of ks)), length-replicate k.count (finger_of row k), kinds_le row ks (All-tail (λ (kind : Kind). 0 < kind.count) k ks some))

pub has_pairs : (f : Fingers) (k : Kinds) → ArePaired f → AreKinds f k → AreSomeKinds k → HasPairs k
has_pairs f k pairs kinds some =
    let fingers : AreFingers (left_in k (start_of k)) = some_fingers k some in
    let each : (gate : ℕ) → on_gate gate (all_n k) ≡ on_gate gate (all_p k) = λ gate. omega (arith, gate_perm gate f.n (all_n k) kinds.n, gate_perm gate f.p (all_p k) kinds.p, pairs.paired gate) in
    let p_full : length (all_p k) ≡ columns_left k (start_of k) = full k (all_p k) (λ gate. omega (arith, each gate)) (λ i d within. (fingers.p i d within).gate) in
    let n_full : length (all_n k) ≡ columns_left k (start_of k) = full k (all_n k) (λ gate. omega (arith, each gate)) (λ i d within. (fingers.n i d within).gate) in
    let few : columns_left k (start_of k) ≤ 10 = omega (arith, columns_same f k kinds, pairs.few) in
    let p_some : HaveFingers k.p = all_imply (IsKind k.nets) (λ (kind : Kind). 0 < kind.count) k.p (λ kind is. is.some) some.p in
    record {
      p_single = λ gate. omega (arith, p_on f k gate kinds, pairs.single gate);
      n_single = λ gate. omega (arith, n_on f k gate kinds, pairs.single gate, pairs.paired gate);
      same = λ gate. omega (arith, p_on f k gate kinds, n_on f k gate kinds, pairs.paired gate);
      p_some = p_some;
      n_some = all_imply (IsKind k.nets) (λ (kind : Kind). 0 < kind.count) k.n (λ kind is. is.some) some.n;
      few = few;
      p_full = p_full;
      n_full = n_full;
      p_kinds = omega (arith, kinds_le P k.p p_some, p_full, few);
    }

-- ---- states

-- each gate has as many fingers left in one row as in the other
pub left_same : (k : Kinds) (s : State) (gate : ℕ) → HasPairs k → IsState k s → gate_left k.n s.n_left gate ≡ gate_left k.p s.p_left gate
left_same k s gate pairs valid =
    let lead = valid.lead gate in
    let start_p = gate_code P k.p (counts_of k.p) gate in
    let start_n = gate_code N k.n (counts_of k.n) gate in
    let p = gate_code P k.p s.p_left gate in
    let n = gate_code N k.n s.n_left gate in
    let below : on_gate gate (left_in k s).n ≤ on_gate gate (left_in k s).p = lead.0 (omega (arith, start_p, start_n, pairs.same gate)) in
    let above : on_gate gate (left_in k s).p ≤ on_gate gate (left_in k s).n = lead.1 (omega (arith, start_p, start_n, pairs.same gate)) in
    omega (arith, p, n, below, above)

-- what is left of the P row tells what is left of the N row
pub same_n_left : (k : Kinds) (a b : State) → HasPairs k → IsState k a → IsState k b → a.p_left ≡ b.p_left → a.n_left ≡ b.n_left
same_n_left k a b pairs first second same =
    counts_same k.n a.n_left b.n_left pairs.n_single pairs.n_some first.n_kinds second.n_kinds first.n_counts second.n_counts
    (λ gate. omega (arith, left_same k a gate pairs first, left_same k b gate pairs second, ap (λ (left : List ℕ). gate_left k.p left gate) same))
