-- Fingers left on a gate, and which states are valid.
use Rattle.std.specs.Prelude.{ℕ, zero, suc, ◌≡◌, ◌↔◌, ◌+◌, ◌<◌, ◌≤◌, true, ◌&&◌, ◌||◌, ◌==◌, ltb, leb, max, List, [], ◌∷◌, length, replicate, drop, get_or, Option, Some, None, All, IfSome, IsTrue, slice_get, slice_index}
use Rattle.std.proofs.Common.{refl, subst, arith, ◌∙◌, inl, inr}
use Rattle.std.specs.Bool.{Decides}
use Rattle.std.specs.List.{list_all, list_any, zip}
use Rattle.std.proofs.lemmas.Bool.{and_from, and_parts, cases_Bool, cases_lt, eq-eqb, eqb-true, le-leb, leb-true, lt-ltb, ltb-true, or_cases, or_left, or_right}
use Rattle.std.proofs.lemmas.List.{length-append, length-map, length-replicate}
use Rattle.std.proofs.lemmas.List.Elements.{All-append, All-head, All-nil, All-replicate, All-tail}
use Rattle.std.proofs.lemmas.List.Sums.{count_by-le-length, sum_by-cons}
use Rattle.std.proofs.lemmas.Option.{none-some, same_Some}
use Rattle.cell_num.specs.declared.finger.Row.{Row}
use Rattle.cell_num.specs.declared.finger.Row.TheVariants.{P, N}
use Rattle.cell_num.specs.declared.net.NetNo.{NetNo}
use Rattle.cell_num.specs.declared.finger.Finger.{Finger}
use Rattle.cell_num.specs.Fingers.{AreFingers, IsFinger, on_gate, sum_below}
use Rattle.row_state.specs.declared.kind.Kind.{Kind}
use Rattle.row_state.specs.declared.kind.Kinds.{Kinds}
use Rattle.row_state.specs.declared.state.State.{State}
use Rattle.row_state.specs.Completion.{finger_of, fingers_left, left_in}
use Rattle.row_state.specs.Start.{AreSomeKinds, EndsAreNets, GatesAreNets, HasFingers, IsKind, IsState, KeepsLead, columns_left, counts_of, start_of}
use Rattle.row_state.specs.declared.gate.OnGate.{OnGate}
use Rattle.row_state.specs.Runs.{IsOnGate}
use Rattle.row_state.specs.Tests.{columns_test, counts_fit, end_fits, gate_left, keeps_lead, leads_below, left_of_kind, state_test}
use Rattle.row_state.specs.Gates.{sum_below_same}
use Rattle.row_state.proofs.KindsOf.{few_fingers}
use Rattle.cell_num.proofs.Lists.{all_at}
use Rattle.row_state.proofs.Numbers.{gate_code}

counts_within : (kinds : List Kind) (i : ℕ) (kind : Kind) → slice_get kinds i ≡ Some kind → slice_index (counts_of kinds) i ≤ kind.count
counts_within [] i kind is = absurd (none-some kind is)
counts_within (k ∷ ks) zero kind is = let same : k ≡ kind = same_Some k kind is in rw same (omega arith)
counts_within (k ∷ ks) (suc i) kind is = counts_within ks i kind is

-- the state before the first column is valid
pub start_valid : (k : Kinds) → IsState k (start_of k)
start_valid k =
    record {
      p_kinds = length-map k.p (λ (x : Kind). x.count);
      n_kinds = length-map k.n (λ (x : Kind). x.count);
      p_counts = counts_within k.p;
      n_counts = counts_within k.n;
      p_end = tt;
      n_end = tt;
      lead = λ gate. ((λ h. h), (λ h. h));
    }

gate_all_next : (kinds : List Kind) (gate i : ℕ) (k : Kind) → i < length kinds → gate_left (drop i kinds) (counts_of (drop i kinds)) gate ≡ left_of_kind gate (get_or kinds i k, (get_or kinds i k).count) + gate_left (drop (suc i) kinds) (counts_of (drop (suc i) kinds)) gate
gate_all_next [] gate i k l = absurd (omega (arith, l))
gate_all_next (x ∷ xs) gate zero k l = sum_by-cons (left_of_kind gate) (x, x.count) (zip xs (counts_of xs))
gate_all_next (x ∷ xs) gate (suc i) k l = gate_all_next xs gate i k (omega (arith, l))

pub gate_all_step : (kinds : List Kind) (gate i : ℕ) (k : Kind) → i < length kinds → gate_left (drop i kinds) (counts_of (drop i kinds)) gate ≡ left_of_kind gate (get_or kinds i k, (get_or kinds i k).count) + gate_left (drop (i + 1) kinds) (counts_of (drop (i + 1) kinds)) gate
gate_all_step kinds gate i k l =
    let e : suc i ≡ i + 1 = omega arith in
    subst (λ n. gate_left (drop i kinds) (counts_of (drop i kinds)) gate ≡ left_of_kind gate (get_or kinds i k, (get_or kinds i k).count) + gate_left (drop n kinds) (counts_of (drop n kinds)) gate) e (gate_all_next kinds gate i k l)

-- the fingers of kinds are fingers that every call takes
kind_finger : (row : Row) (nets : ℕ) (kind : Kind) → IsKind nets kind → IsFinger row nets (finger_of row kind)
kind_finger row nets kind h = record { row = refl; order = h.order; gate = h.gate; ends = h.ends }

row_fingers : (row : Row) (nets : ℕ) (kinds : List Kind) → All (IsKind nets) kinds → All (IsFinger row nets) (fingers_left row kinds (counts_of kinds))
row_fingers row nets [] h = All-nil (IsFinger row nets)
row_fingers row nets (k ∷ ks) h =
    All-append (IsFinger row nets) (replicate k.count (finger_of row k)) (fingers_left row ks (counts_of ks))
    (All-replicate (IsFinger row nets) k.count (finger_of row k) (kind_finger row nets k (All-head (IsKind nets) k ks h)))
    (row_fingers row nets ks (All-tail (IsKind nets) k ks h))

pub some_fingers : (k : Kinds) → AreSomeKinds k → AreFingers (left_in k (start_of k))
some_fingers k some = record { p = row_fingers P k.nets k.p some.p; n = row_fingers N k.nets k.n some.n; few_nets = some.few_nets; few_columns = some.few_columns }

kinds_le : (row : Row) (nets : ℕ) (kinds : List Kind) → All (IsKind nets) kinds → length kinds ≤ length (fingers_left row kinds (counts_of kinds))
kinds_le row nets [] h = omega arith
kinds_le row nets (k ∷ ks) h =
    let here : IsKind nets k = All-head (IsKind nets) k ks h in
    omega (arith, here.some, length-append (replicate k.count (finger_of row k)) (fingers_left row ks (counts_of ks)), length-replicate k.count (finger_of row k), kinds_le row nets ks (All-tail (IsKind nets) k ks h))

-- there are few kinds
pub kinds_few : (k : Kinds) → AreSomeKinds k → (length k.p ≤ 32) × (length k.n ≤ 32)
kinds_few k some =
    let few = few_fingers (left_in k (start_of k)) (some_fingers k some) in
    (omega (arith, few.0, kinds_le P k.nets k.p some.p), omega (arith, few.1, kinds_le N k.nets k.n some.n))

pub kinds_few_p : (k : Kinds) → AreSomeKinds k → length k.p ≤ 32
kinds_few_p k some = (kinds_few k some).0

pub kinds_few_n : (k : Kinds) → AreSomeKinds k → length k.n ≤ 32
kinds_few_n k some = (kinds_few k some).1

on_gate_le : (gate : ℕ) (fs : List Finger) → on_gate gate fs ≤ length fs
on_gate_le gate fs = count_by-le-length (λ (f : Finger). f.gate.0 == gate) fs

-- and few fingers on a gate
pub gates_few : (k : Kinds) (gate : ℕ) → AreSomeKinds k → (gate_left k.p (counts_of k.p) gate ≤ 64) × (gate_left k.n (counts_of k.n) gate ≤ 64)
gates_few k gate some =
    let few = few_fingers (left_in k (start_of k)) (some_fingers k some) in
    let p = fingers_left P k.p (counts_of k.p) in
    let n = fingers_left N k.n (counts_of k.n) in
    (omega (arith, few.0, on_gate_le gate p, gate_code P k.p (counts_of k.p) gate), omega (arith, few.1, on_gate_le gate n, gate_code N k.n (counts_of k.n) gate))

of_kind_le : (kind : Kind) (c gate : ℕ) → c ≤ kind.count → left_of_kind gate (kind, c) ≤ left_of_kind gate (kind, kind.count)
of_kind_le kind c gate h = elim (cases_Bool (kind.gate.0 == gate)) [ inl e ↦ rw e h | inr e ↦ rw e (omega arith) ]

fit_le : (kinds : List Kind) (left : List ℕ) (gate : ℕ) → list_all (λ (pair : Kind × ℕ). leb pair.1 pair.0.count) (zip kinds left) ≡ true → gate_left kinds left gate ≤ gate_left kinds (counts_of kinds) gate
fit_le [] left gate h = omega arith
fit_le (k ∷ ks) [] gate h = omega arith
fit_le (k ∷ ks) (c ∷ cs) gate h =
    let parts : (leb c k.count ≡ true) × (list_all (λ (pair : Kind × ℕ). leb pair.1 pair.0.count) (zip ks cs) ≡ true) = and_parts _ _ h in
    omega (arith, of_kind_le k c gate (leb-true c k.count parts.0), fit_le ks cs gate parts.1, sum_by-cons (left_of_kind gate) (k, c) (zip ks cs), sum_by-cons (left_of_kind gate) (k, k.count) (zip ks (counts_of ks)))

-- of counts that fit few are left on a gate
pub left_few : (k : Kinds) (s : State) (gate : ℕ) → AreSomeKinds k → counts_fit k.p s.p_left ≡ true → counts_fit k.n s.n_left ≡ true → (length s.p_left ≡ length k.p) × (length s.n_left ≡ length k.n) × (gate_left k.p s.p_left gate ≤ 64) × (gate_left k.n s.n_left gate ≤ 64)
left_few k s gate some p n =
    let p' : ((length s.p_left == length k.p) ≡ true) × (list_all (λ (pair : Kind × ℕ). leb pair.1 pair.0.count) (zip k.p s.p_left) ≡ true) = and_parts _ _ p in
    let n' : ((length s.n_left == length k.n) ≡ true) × (list_all (λ (pair : Kind × ℕ). leb pair.1 pair.0.count) (zip k.n s.n_left) ≡ true) = and_parts _ _ n in
    let few = gates_few k gate some in
    (eqb-true _ _ p'.0, eqb-true _ _ n'.0, omega (arith, few.0, fit_le k.p s.p_left gate p'.1), omega (arith, few.1, fit_le k.n s.n_left gate n'.1))

-- counts that fit, kind by kind
fit_each : (kinds : List Kind) (left : List ℕ) → length left ≡ length kinds → list_all (λ (pair : Kind × ℕ). leb pair.1 pair.0.count) (zip kinds left) ≡ true → (i : ℕ) (kind : Kind) → slice_get kinds i ≡ Some kind → slice_index left i ≤ kind.count
fit_each [] left same h i kind is = absurd (none-some kind is)
fit_each (k ∷ ks) [] same h i kind is = absurd (omega (arith, same))
fit_each (k ∷ ks) (c ∷ cs) same h zero kind is = subst (λ (x : Kind). c ≤ x.count) (same_Some k kind is) (leb-true _ _ (and_parts _ _ h).0)
fit_each (k ∷ ks) (c ∷ cs) same h (suc i) kind is = fit_each ks cs (omega (arith, same)) (and_parts _ _ h).1 i kind is

each_fit : (kinds : List Kind) (left : List ℕ) → ((i : ℕ) (kind : Kind) → slice_get kinds i ≡ Some kind → slice_index left i ≤ kind.count) → list_all (λ (pair : Kind × ℕ). leb pair.1 pair.0.count) (zip kinds left) ≡ true
each_fit [] left h = refl
each_fit (k ∷ ks) [] h = refl
each_fit (k ∷ ks) (c ∷ cs) h = and_from _ _ (le-leb _ _ (h zero k refl)) (each_fit ks cs (λ i kind is. h (suc i) kind is))

pub fits_from : (kinds : List Kind) (left : List ℕ) → length left ≡ length kinds → ((i : ℕ) (kind : Kind) → slice_get kinds i ≡ Some kind → slice_index left i ≤ kind.count) → counts_fit kinds left ≡ true
fits_from kinds left same h = and_from _ _ (eq-eqb _ _ same) (each_fit kinds left h)

-- the counts of a valid state fit
pub p_fits : (k : Kinds) (s : State) → IsState k s → counts_fit k.p s.p_left ≡ true
p_fits k s valid = fits_from k.p s.p_left valid.p_kinds valid.p_counts

pub n_fits : (k : Kinds) (s : State) → IsState k s → counts_fit k.n s.n_left ≡ true
n_fits k s valid = fits_from k.n s.n_left valid.n_kinds valid.n_counts

-- of a valid state few fingers are left on a gate
pub state_few : (k : Kinds) (s : State) (gate : ℕ) → AreSomeKinds k → IsState k s → (length s.p_left ≡ length k.p) × (length s.n_left ≡ length k.n) × (gate_left k.p s.p_left gate ≤ 64) × (gate_left k.n s.n_left gate ≤ 64)
state_few k s gate some valid = left_few k s gate some (fits_from k.p s.p_left valid.p_kinds valid.p_counts) (fits_from k.n s.n_left valid.n_kinds valid.n_counts)

pub gates_are_nets : (k : Kinds) → AreSomeKinds k → GatesAreNets k
gates_are_nets k some =
    record {
      p = λ i kind is. let h : IsKind k.nets kind = all_at (IsKind k.nets) k.p i kind some.p is in h.gate;
      n = λ i kind is. let h : IsKind k.nets kind = all_at (IsKind k.nets) k.n i kind some.n is in h.gate;
    }

pub ends_are_nets : (k : Kinds) → AreSomeKinds k → EndsAreNets k
ends_are_nets k some =
    record {
      p = λ i kind is. let h : IsKind k.nets kind = all_at (IsKind k.nets) k.p i kind some.p is in (omega (arith, h.order, h.ends), h.ends);
      n = λ i kind is. let h : IsKind k.nets kind = all_at (IsKind k.nets) k.n i kind some.n is in (omega (arith, h.order, h.ends), h.ends);
    }

-- no finger is on a gate that is no net
none_beyond : (nets : ℕ) (kinds : List Kind) (left : List ℕ) (gate : ℕ) → All (IsKind nets) kinds → nets ≤ gate → gate_left kinds left gate ≡ 0
none_beyond nets [] left gate h l = refl
none_beyond nets (k ∷ ks) [] gate h l = refl
none_beyond nets (k ∷ ks) (c ∷ cs) gate h l =
    let here : IsKind nets k = All-head (IsKind nets) k ks h in
    let none : left_of_kind gate (k, c) ≡ 0 = elim (cases_Bool (k.gate.0 == gate)) [ inl e ↦ absurd (omega (arith, here.gate, l, eqb-true _ _ e)) | inr e ↦ rw e refl ] in
    omega (arith, none, none_beyond nets ks cs gate (All-tail (IsKind nets) k ks h) l, sum_by-cons (left_of_kind gate) (k, c) (zip ks cs))

-- over numbers: the test of one gate
lead_test : (p n ps ns : ℕ) → Decides ((ltb p n || leb ns ps) && (ltb n p || leb ps ns)) ((n ≤ p → ns ≤ ps) × (p ≤ n → ps ≤ ns))
lead_test p n ps ns = (sound, complete)
  where
    sound : ((ltb p n || leb ns ps) && (ltb n p || leb ps ns)) ≡ true → (n ≤ p → ns ≤ ps) × (p ≤ n → ps ≤ ns)
    sound h =
        let parts : ((ltb p n || leb ns ps) ≡ true) × ((ltb n p || leb ps ns) ≡ true) = and_parts _ _ h in
        ((λ l. elim (or_cases (ltb p n) (leb ns ps) parts.0) [ inl e ↦ let m : p < n = ltb-true p n e in absurd (omega (arith, l, m)) | inr e ↦ leb-true ns ps e ]), (λ l. elim (or_cases (ltb n p) (leb ps ns) parts.1) [ inl e ↦ let m : n < p = ltb-true n p e in absurd (omega (arith, l, m)) | inr e ↦ leb-true ps ns e ]))

    complete : (n ≤ p → ns ≤ ps) × (p ≤ n → ps ≤ ns) → ((ltb p n || leb ns ps) && (ltb n p || leb ps ns)) ≡ true
    complete h =
        and_from (ltb p n || leb ns ps) (ltb n p || leb ps ns)
        (elim (cases_lt p n) [ inl l ↦ or_left (ltb p n) (leb ns ps) (lt-ltb p n l) | inr l ↦ or_right (ltb p n) (leb ns ps) (le-leb ns ps (h.0 l)) ])
        (elim (cases_lt n p) [ inl l ↦ or_left (ltb n p) (leb ps ns) (lt-ltb n p l) | inr l ↦ or_right (ltb n p) (leb ps ns) (le-leb ps ns (h.1 l)) ])

lead_decides : (k : Kinds) (s : State) (gate : ℕ) → Decides (keeps_lead k s gate) (KeepsLead k s gate)
lead_decides k s gate =
    let p : on_gate gate (fingers_left P k.p (counts_of k.p)) ≡ gate_left k.p (counts_of k.p) gate = gate_code P k.p (counts_of k.p) gate in
    let n : on_gate gate (fingers_left N k.n (counts_of k.n)) ≡ gate_left k.n (counts_of k.n) gate = gate_code N k.n (counts_of k.n) gate in
    let ps : on_gate gate (fingers_left P k.p s.p_left) ≡ gate_left k.p s.p_left gate = gate_code P k.p s.p_left gate in
    let ns : on_gate gate (fingers_left N k.n s.n_left) ≡ gate_left k.n s.n_left gate = gate_code N k.n s.n_left gate in
    let t = lead_test (gate_left k.p (counts_of k.p) gate) (gate_left k.n (counts_of k.n) gate) (gate_left k.p s.p_left gate) (gate_left k.n s.n_left gate) in (
      (λ e. let h = t.0 e in ((λ l. let m = h.0 (omega (arith, l, p, n)) in omega (arith, m, ps, ns)), (λ l. let m = h.1 (omega (arith, l, p, n)) in omega (arith, m, ps, ns)))),
      (λ (a, b). t.1 ((λ l. let m = a (omega (arith, l, p, n)) in omega (arith, m, ps, ns)), (λ l. let m = b (omega (arith, l, p, n)) in omega (arith, m, ps, ns)))),
    )

leads_at : (k : Kinds) (s : State) (n gate : ℕ) → leads_below k s n ≡ true → gate < n → KeepsLead k s gate
leads_at k s zero gate h l = absurd (omega (arith, l))
leads_at k s (suc n) gate h l =
    let parts : (keeps_lead k s n ≡ true) × (leads_below k s n ≡ true) = and_parts _ _ h in
    elim (cases_lt gate n) [
      | inl less ↦ leads_at k s n gate parts.1 less
      | inr more ↦ let e : n ≡ gate = omega (arith, l, more) in subst (KeepsLead k s) e ((lead_decides k s n).0 parts.0)
    ]

leads_from : (k : Kinds) (s : State) (n : ℕ) → ((gate : ℕ) → KeepsLead k s gate) → leads_below k s n ≡ true
leads_from k s zero h = refl
leads_from k s (suc n) h = and_from _ _ ((lead_decides k s n).1 (h n)) (leads_from k s n h)

pub lead_is : (k : Kinds) (s : State) (on : OnGate) → IsOnGate k s on → ((ltb on.p.all on.n.all || leb on.n.left on.p.left) && (ltb on.n.all on.p.all || leb on.p.left on.n.left)) ≡ keeps_lead k s on.gate
lead_is k s on h = rw (h.p.all, h.n.all, h.p.left, h.n.left) refl

lead_beyond : (k : Kinds) (s : State) (gate : ℕ) → AreSomeKinds k → k.nets ≤ gate → KeepsLead k s gate
lead_beyond k s gate some l =
    let ps : on_gate gate (fingers_left P k.p s.p_left) ≡ 0 = gate_code P k.p s.p_left gate ∙ none_beyond k.nets k.p s.p_left gate some.p l in
    let ns : on_gate gate (fingers_left N k.n s.n_left) ≡ 0 = gate_code N k.n s.n_left gate ∙ none_beyond k.nets k.n s.n_left gate some.n l in
    ((λ h. omega (arith, ps, ns)), (λ h. omega (arith, ps, ns)))

end_within : (end : Option NetNo) (nets : ℕ) → end_fits end nets ≡ true → IfSome end (λ v. v.0 < nets)
end_within None nets h = tt
end_within (Some v) nets h = ltb-true _ _ h

within_end : (end : Option NetNo) (nets : ℕ) → IfSome end (λ v. v.0 < nets) → end_fits end nets ≡ true
within_end None nets h = refl
within_end (Some v) nets h = lt-ltb _ _ h

-- the test of a state decides whether it is valid
pub state_decides : (k : Kinds) (s : State) → AreSomeKinds k → IsTrue (state_test k s) ↔ IsState k s
state_decides k s some = (sound, complete)
  where
    sound : state_test k s ≡ true → IsState k s
    sound h =
        let four : ((counts_fit k.p s.p_left && counts_fit k.n s.n_left && leads_below k s k.nets && end_fits s.p_end k.nets) ≡ true) × (end_fits s.n_end k.nets ≡ true) = and_parts _ _ h in
        let three : ((counts_fit k.p s.p_left && counts_fit k.n s.n_left && leads_below k s k.nets) ≡ true) × (end_fits s.p_end k.nets ≡ true) = and_parts _ _ four.0 in
        let two : ((counts_fit k.p s.p_left && counts_fit k.n s.n_left) ≡ true) × (leads_below k s k.nets ≡ true) = and_parts _ _ three.0 in
        let one : (counts_fit k.p s.p_left ≡ true) × (counts_fit k.n s.n_left ≡ true) = and_parts _ _ two.0 in
        let p : ((length s.p_left == length k.p) ≡ true) × (list_all (λ (pair : Kind × ℕ). leb pair.1 pair.0.count) (zip k.p s.p_left) ≡ true) = and_parts _ _ one.0 in
        let n : ((length s.n_left == length k.n) ≡ true) × (list_all (λ (pair : Kind × ℕ). leb pair.1 pair.0.count) (zip k.n s.n_left) ≡ true) = and_parts _ _ one.1 in
        record {
          p_kinds = eqb-true _ _ p.0;
          n_kinds = eqb-true _ _ n.0;
          p_counts = fit_each k.p s.p_left (eqb-true _ _ p.0) p.1;
          n_counts = fit_each k.n s.n_left (eqb-true _ _ n.0) n.1;
          p_end = end_within s.p_end k.nets three.1;
          n_end = end_within s.n_end k.nets four.1;
          lead = λ gate. elim (cases_lt gate k.nets) [ inl l ↦ leads_at k s k.nets gate two.1 l | inr l ↦ lead_beyond k s gate some l ];
        }

    complete : IsState k s → state_test k s ≡ true
    complete h =
        and_from _ _ (and_from _ _ (and_from _ _ (and_from _ _ (fits_from k.p s.p_left h.p_kinds h.p_counts) (fits_from k.n s.n_left h.n_kinds h.n_counts)) (leads_from k s k.nets h.lead)) (within_end s.p_end k.nets h.p_end)) (within_end s.n_end k.nets h.n_end)

-- a finger is left where a count is not 0
some_there : (row : Row) (kinds : List Kind) (left : List ℕ) → length left ≡ length kinds → list_any (λ count. ltb 0 count) left ≡ true → 0 < length (fingers_left row kinds left)
some_there row [] [] same h = cc
some_there row [] (c ∷ cs) same h = absurd (omega (arith, same))
some_there row (k ∷ ks) [] same h = absurd (omega (arith, same))
some_there row (k ∷ ks) (c ∷ cs) same h =
    let whole = length-append (replicate c (finger_of row k)) (fingers_left row ks cs) in
    elim (or_cases (ltb 0 c) (list_any (λ count. ltb 0 count) cs) h) [
      | inl e ↦ let some : 0 < c = ltb-true 0 c e in omega (arith, whole, length-replicate c (finger_of row k), some)
      | inr e ↦ omega (arith, whole, some_there row ks cs (omega (arith, same)) e)
    ]

there_some : (row : Row) (kinds : List Kind) (left : List ℕ) → 0 < length (fingers_left row kinds left) → list_any (λ count. ltb 0 count) left ≡ true
there_some row [] left h = absurd (omega (arith, h))
there_some row (k ∷ ks) [] h = absurd (omega (arith, h))
there_some row (k ∷ ks) (zero ∷ cs) h = there_some row ks cs h
there_some row (k ∷ ks) (suc c ∷ cs) h = let some : 0 < suc c = omega arith in or_left (ltb 0 (suc c)) (list_any (λ count. ltb 0 count) cs) (lt-ltb 0 (suc c) some)

pub fingers_decide : (k : Kinds) (s : State) → IsState k s → IsTrue (list_any (λ count. ltb 0 count) s.p_left || list_any (λ count. ltb 0 count) s.n_left) ↔ HasFingers k s
fingers_decide k s valid = (sound, complete)
  where
    sound : (list_any (λ count. ltb 0 count) s.p_left || list_any (λ count. ltb 0 count) s.n_left) ≡ true → HasFingers k s
    sound h = elim (or_cases (list_any (λ count. ltb 0 count) s.p_left) (list_any (λ count. ltb 0 count) s.n_left) h) [
      | inl e ↦ let some : 0 < length (fingers_left P k.p s.p_left) = some_there P k.p s.p_left valid.p_kinds e in omega (arith, some)
      | inr e ↦ let some : 0 < length (fingers_left N k.n s.n_left) = some_there N k.n s.n_left valid.n_kinds e in omega (arith, some)
    ]

    complete : HasFingers k s → (list_any (λ count. ltb 0 count) s.p_left || list_any (λ count. ltb 0 count) s.n_left) ≡ true
    complete h = elim (cases_lt 0 (length (fingers_left P k.p s.p_left))) [
      | inl l ↦ or_left _ _ (there_some P k.p s.p_left l)
      | inr l ↦ or_right _ _ (there_some N k.n s.n_left (omega (arith, h, l)))
    ]

pub columns_are : (k : Kinds) → sum_below (columns_test k) k.nets ≡ columns_left k (start_of k)
columns_are k = sum_below_same (columns_test k) (λ gate. max (on_gate gate (fingers_left P k.p (counts_of k.p))) (on_gate gate (fingers_left N k.n (counts_of k.n)))) k.nets (λ gate. rw (gate_code P k.p (counts_of k.p) gate, gate_code N k.n (counts_of k.n) gate) refl)

pub few_p : (k : Kinds) (s : State) (gate : ℕ) → AreSomeKinds k → IsState k s → (length s.p_left ≡ length k.p) × (gate_left k.p s.p_left gate ≤ 64)
few_p k s gate some valid = let few = state_few k s gate some valid in (few.0, few.2)

pub few_n : (k : Kinds) (s : State) (gate : ℕ) → AreSomeKinds k → IsState k s → (length s.n_left ≡ length k.n) × (gate_left k.n s.n_left gate ≤ 64)
few_n k s gate some valid = let few = state_few k s gate some valid in (few.1, few.3)
