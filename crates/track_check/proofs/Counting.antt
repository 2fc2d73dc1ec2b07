-- How often each net is touched, counted kind by kind.
use Rattle.std.proofs.Common.{ℕ, zero, suc, ◌≡◌, ◌+◌, ◌*◌, ◌<◌, ◌≤◌, ◌==◌, Bool, true, false, List, [], ◌∷◌, length, replicate, drop, get_or, slice_set, zip, Option, Some, None, IfSome, inl, inr, refl, sym, ap, arith, ◌∙◌}
use Rattle.std.specs.Prelude.{leb}
use Rattle.std.specs.List.{list_all}
use Rattle.std.proofs.lemmas.Bool.{and_parts, cases_eq, eq-eqb, leb-true, ne_eqb}
use Rattle.std.proofs.lemmas.List.{get_or-set_other, get_or-set_same}
use Rattle.std.proofs.lemmas.List.Sums.{sum_by-append, sum_by-cons}
use Rattle.cell_num.specs.declared.finger.Row.{Row}
use Rattle.cell_num.specs.declared.finger.Row.TheVariants.{P, N}
use Rattle.cell_num.specs.declared.finger.Finger.{Finger}
use Rattle.cell_num.specs.declared.net.NetNo.{NetNo}
use Rattle.row_trails.specs.Counts.{entry}
use Rattle.row_state.specs.declared.kind.Kind.{Kind}
use Rattle.row_state.specs.declared.kind.Kinds.{Kinds}
use Rattle.row_state.specs.declared.state.State.{State}
use Rattle.row_state.specs.Completion.{finger_of, fingers_left, left_in}
use Rattle.row_state.specs.Start.{AreSomeKinds, IsState, counts_of, start_of}
use Rattle.row_state.proofs.KindsOf.{few_fingers}
use Rattle.row_state.proofs.Valid.{n_fits, p_fits, some_fingers}
use Rattle.track_ways.specs.Lines.{is_net}
use Rattle.track_ways.specs.States.{touched, touches}
use Rattle.track_ways.specs.Ways.{net_of}
use Rattle.track_check.specs.Touches.{AreTouches, counted_if, kind_touches, row_touches}

pub counted_own : (n count : ℕ) → counted_if (n == n) count ≡ count
counted_own n count = rw (eq-eqb n n refl) refl

pub added_at : (table : List ℕ) (net u count : ℕ) → net < length table → get_or (slice_set table net (get_or table net 0 + count)) u 0 ≡ get_or table u 0 + counted_if (net == u) count
added_at table net u count within = elim (cases_eq net u) [
  | inl e ↦
      let there : get_or (slice_set table net (get_or table net 0 + count)) net 0 ≡ get_or table net 0 + count = get_or-set_same table net (get_or table net 0 + count) 0 within in
      rw (sym e, eq-eqb net net refl) there
  | inr ne ↦
      let there : get_or (slice_set table net (get_or table net 0 + count)) u 0 ≡ get_or table u 0 = get_or-set_other table net u (get_or table net 0 + count) 0 (λ e. ne (sym e)) in
      let none : counted_if (net == u) count ≡ 0 = rw (ne_eqb net u ne) refl in
      omega (arith, there, none)
]

-- one kind less to come
touches_next : (kinds : List Kind) (left : List ℕ) (u i : ℕ) (k : Kind) (c : ℕ) → i < length kinds → length left ≡ length kinds → row_touches (drop i kinds) (drop i left) u ≡ kind_touches u (get_or kinds i k, get_or left i c) + row_touches (drop (suc i) kinds) (drop (suc i) left) u
touches_next [] left u i k c l same = absurd (omega (arith, l))
touches_next (x ∷ xs) [] u i k c l same = absurd (omega (arith, same))
touches_next (x ∷ xs) (y ∷ ys) u zero k c l same = sum_by-cons (kind_touches u) (x, y) (zip xs ys)
touches_next (x ∷ xs) (y ∷ ys) u (suc i) k c l same = touches_next xs ys u i k c (omega (arith, l)) (omega (arith, same))

pub touches_step : (kinds : List Kind) (left : List ℕ) (u i : ℕ) (k : Kind) (c : ℕ) → i < length kinds → length left ≡ length kinds → row_touches (drop i kinds) (drop i left) u ≡ kind_touches u (get_or kinds i k, get_or left i c) + row_touches (drop (i + 1) kinds) (drop (i + 1) left) u
touches_step kinds left u i k c l same =
    let e : suc i ≡ i + 1 = omega arith in
    touches_next kinds left u i k c l same ∙ ap (λ n. kind_touches u (get_or kinds i k, get_or left i c) + row_touches (drop n kinds) (drop n left) u) e

pub touches_end : (kinds : List Kind) (left : List ℕ) (u i : ℕ) → length kinds ≤ i → row_touches (drop i kinds) (drop i left) u ≡ 0
touches_end [] left u zero l = refl
touches_end [] left u (suc i) l = refl
touches_end (x ∷ xs) left u zero l = absurd (omega (arith, l))
touches_end (x ∷ xs) [] u (suc i) l = none (drop i xs)
  where
    none : (ks : List Kind) → row_touches ks [] u ≡ 0
    none [] = refl
    none (k ∷ ks) = refl
touches_end (x ∷ xs) (y ∷ ys) u (suc i) l = touches_end xs ys u i (omega (arith, l))

nothing : (a b g : Bool) → ◌≡◌ {A = ℕ} 0 (counted_if a 0 + counted_if b 0 + counted_if g 0)
nothing true true true = refl
nothing true true false = refl
nothing true false true = refl
nothing true false false = refl
nothing false true true = refl
nothing false true false = refl
nothing false false true = refl
nothing false false false = refl

if_more : (b : Bool) (count : ℕ) → counted_if b (suc count) ≡ counted_if b 1 + counted_if b count
if_more true count = omega arith
if_more false count = refl

if_le : (b : Bool) (few count : ℕ) → few ≤ count → counted_if b few ≤ counted_if b count
if_le true few count le = le
if_le false few count le = omega arith

pub if_few : (b : Bool) → counted_if b 1 ≤ 1
if_few true = omega arith
if_few false = omega arith

replicated : (row : Row) (k : Kind) (net : NetNo) (count : ℕ) → touched net (replicate count (finger_of row k)) ≡ kind_touches net.0 (k, count)
replicated row k net zero = nothing (k.lo.0 == net.0) (k.hi.0 == net.0) (k.gate.0 == net.0)
replicated row k net (suc count) =
    omega (arith, sum_by-cons (touches net) (finger_of row k) (replicate count (finger_of row k)), replicated row k net count, if_more (k.lo.0 == net.0) count, if_more (k.hi.0 == net.0) count, if_more (k.gate.0 == net.0) count)

-- what is counted kind by kind is what the fingers left touch
pub row_touched : (row : Row) (kinds : List Kind) (left : List ℕ) (net : NetNo) → touched net (fingers_left row kinds left) ≡ row_touches kinds left net.0
row_touched row [] left net = refl
row_touched row (k ∷ ks) [] net = refl
row_touched row (k ∷ ks) (c ∷ cs) net =
    omega (arith, sum_by-append (touches net) (replicate c (finger_of row k)) (fingers_left row ks cs), replicated row k net c, row_touched row ks cs net, sum_by-cons (kind_touches net.0) (k, c) (zip ks cs))

-- a finger touches a net at most three times
touched_few : (net : NetNo) (fs : List Finger) → touched net fs ≤ 3 * length fs
touched_few net [] = omega arith
touched_few net (f ∷ fs) = omega (arith, sum_by-cons (touches net) f fs, touched_few net fs, if_few (f.lo.0 == net.0), if_few (f.hi.0 == net.0), if_few (f.gate.0 == net.0))

fit_le : (kinds : List Kind) (left : List ℕ) (u : ℕ) → list_all (λ (pair : Kind × ℕ). leb pair.1 pair.0.count) (zip kinds left) ≡ true → row_touches kinds left u ≤ row_touches kinds (counts_of kinds) u
fit_le [] left u h = omega arith
fit_le (k ∷ ks) [] u h = omega arith
fit_le (k ∷ ks) (c ∷ cs) u h =
    let parts : (leb c k.count ≡ true) × (list_all (λ (pair : Kind × ℕ). leb pair.1 pair.0.count) (zip ks cs) ≡ true) = and_parts _ _ h in
    let fewer : c ≤ k.count = leb-true c k.count parts.0 in
    omega (arith, if_le (k.lo.0 == u) c k.count fewer, if_le (k.hi.0 == u) c k.count fewer, if_le (k.gate.0 == u) c k.count fewer, fit_le ks cs u parts.1, sum_by-cons (kind_touches u) (k, c) (zip ks cs), sum_by-cons (kind_touches u) (k, k.count) (zip ks (counts_of ks)))

p_fewer : (k : Kinds) (s : State) (u : ℕ) → IsState k s → row_touches k.p s.p_left u ≤ row_touches k.p (counts_of k.p) u
p_fewer k s u state = fit_le k.p s.p_left u (and_parts _ _ (p_fits k s state)).1

pub touched_p_few : (k : Kinds) (s : State) (u : ℕ) → AreSomeKinds k → IsState k s → row_touches k.p s.p_left u ≤ 96
touched_p_few k s u some state =
    let few = few_fingers (left_in k (start_of k)) (some_fingers k some) in
    omega (arith, few.0, touched_few (net_of u) (fingers_left P k.p (counts_of k.p)), row_touched P k.p (counts_of k.p) (net_of u), p_fewer k s u state)

n_fewer : (k : Kinds) (s : State) (u : ℕ) → IsState k s → row_touches k.n s.n_left u ≤ row_touches k.n (counts_of k.n) u
n_fewer k s u state = fit_le k.n s.n_left u (and_parts _ _ (n_fits k s state)).1

pub touched_n_few : (k : Kinds) (s : State) (u : ℕ) → AreSomeKinds k → IsState k s → row_touches k.n s.n_left u ≤ 96
touched_n_few k s u some state =
    let few = few_fingers (left_in k (start_of k)) (some_fingers k some) in
    omega (arith, few.1, touched_few (net_of u) (fingers_left N k.n (counts_of k.n)), row_touched N k.n (counts_of k.n) (net_of u), n_fewer k s u state)

-- a row as the code has it
pub row_same : (kinds others : List Kind) (left rest : List ℕ) (u : ℕ) → kinds ≡ others → left ≡ rest → row_touches kinds left u ≡ row_touches others rest u
row_same kinds others left rest u is are = ap (λ ks. row_touches ks left u) is ∙ ap (λ ns. row_touches others ns u) are

pub first_few : (table : List ℕ) (u more : ℕ) → ◌≡◌ {A = ℕ} (entry table u) 0 → more ≤ 96 → entry table u + more ≤ 4294967295
first_few table u more none few = omega (arith, none, few)

pub from_none : (table next : List ℕ) (u more : ℕ) → ◌≡◌ {A = ℕ} (entry table u) 0 → entry next u ≡ entry table u + more → entry next u ≡ more
from_none table next u more none added = omega (arith, none, added)

pub end_few : (nets : ℕ) (end : Option NetNo) → nets ≤ 256 → IfSome end (λ net. net.0 < nets) → IfSome end (λ net. net.0 < 256)
end_few nets None few low = tt
end_few nets (Some net) few low = omega (arith, few, low)

-- both rows and both ends
pub state_touched : (k : Kinds) (s : State) (table : List ℕ) → ((u : ℕ) → entry table u ≡ row_touches k.p s.p_left u + row_touches k.n s.n_left u + counted_if (is_net s.p_end (net_of u)) 1 + counted_if (is_net s.n_end (net_of u)) 1) → AreTouches k s table
state_touched k s table each net =
    omega (arith, each net.0, row_touched P k.p s.p_left net, row_touched N k.n s.n_left net)
