-- An order that permutes the gates of some fingers is one of theirs.
use Rattle.std.specs.Prelude.{ℕ, ◌≡◌, ◌≢◌, ◌<◌, ◌≤◌, ◌==◌, Bool, true, false, not, cond, ltb, max, List, [], ◌∷◌, All, AllPairs, Contains, IsPermutation, count_by, length, map, remove, ◌++◌}
use Rattle.std.specs.List.{filter, list_any, range_with_len}
use Rattle.std.proofs.Common.{refl, sym, ap, subst, arith, ◌∙◌, inl, inr, get_or, append-nil}
use Rattle.std.proofs.lemmas.Bool.{and_from, cases_Bool, cases_eq, cases_lt, eqb-true, ne_eqb, or_cases, or_left, or_right}
use Rattle.std.proofs.lemmas.List.Elements.{All-contains, All-filter}
use Rattle.std.proofs.lemmas.List.FromFn.{get_or-range_with_len, length-range_with_len}
use Rattle.std.proofs.lemmas.List.Kept.{AllPairs-filter}
use Rattle.std.proofs.lemmas.List.Sorted.{All-permutation, Contains-permutation, IsPermutation-more}
use Rattle.cell_num.proofs.In.{Image, contains_map, in_map}
use Rattle.cell_num.proofs.Lists.{all_from_contains, contains_here, contains_there}
use Rattle.cell_num.proofs.Pairs.{OneEach, Some', none_counted, one_each_permutation, pairs_differ, pairs_head, pairs_map, pairs_tail, test_finds}
use Rattle.cell_num.proofs.Permutations.{count_cons}
use Rattle.cell_num.specs.declared.net.NetNo.{NetNo}
use Rattle.cell_num.specs.declared.finger.Fingers.{Fingers}
use Rattle.cell_num.specs.Fingers.{AreFingers, on_gate}
use Rattle.row_state.specs.ClassSums.{sum_below_mono}
use Rattle.trail_state.specs.Levels.{IsGate, IsOrder}
use Rattle.trail_state.proofs.Law.{is_net_gate}
use Rattle.trail_state.proofs.Members.{Passes, passes_from, passes_to}
use Rattle.trail_state.proofs.Opened.{range_below, range_has}
use Rattle.trail_state.proofs.Sizes.{sum_keys}
use Rattle.trail_log.specs.Order.{increases, net_rank}
use Rattle.trail_log.specs.Fits.{NetFits}
use Rattle.trail_search.specs.Order.{gates_of, has_finger}
use Rattle.open_gates.specs.Open.{is_uneven}
use Rattle.trail_search.specs.Filling.{filled_gates, is_one_of, opened_gates, uneven_gates}

-- ---- numbers in order

pub range_ascends : (m : ℕ) → AllPairs (λ (a b : ℕ). a < b) (range_with_len 0 m)
range_ascends m i j d less short =
    let l : j < m = omega (arith, short, length-range_with_len 0 m) in
    omega (arith, less, get_or-range_with_len 0 m i d (omega (arith, less, l)), get_or-range_with_len 0 m j d l)

abbrev net : ℕ → NetNo
net g = record { 0 = g }

nets_ascend : (p : ℕ → Bool) (m : ℕ) → AllPairs (λ (a b : NetNo). a.0 < b.0) (map net (filter p (range_with_len 0 m)))
nets_ascend p m =
    let passing : List ℕ = filter p (range_with_len 0 m) in
    pairs_map (λ (a b : ℕ). a < b) (Contains passing) (λ (a b : NetNo). a.0 < b.0) net passing (λ a b _ _ less. less) (all_from_contains (Contains passing) passing (λ v k. k)) (AllPairs-filter (λ (a b : ℕ). a < b) p (range_with_len 0 m) (range_ascends m))

-- ascending numbers, one before the next
pub increases_from : {A : Type 0} (rank : A → ℕ) (xs : List A) → AllPairs (λ a b. rank a < rank b) xs → increases rank xs ≡ true
increases_from rank [] h = refl
increases_from rank (x ∷ []) h = refl
increases_from {A} rank (x ∷ y ∷ ys) h =
    let first : rank x < rank y = All-contains (λ (b : A). rank x < rank b) (y ∷ ys) y (pairs_head (λ (a b : A). rank a < rank b) x (y ∷ ys) h) (contains_here y ys) in
    and_from (ltb (rank x) (rank y)) (increases rank (y ∷ ys)) (below (rank x) (rank y) first) (increases_from rank (y ∷ ys) (pairs_tail (λ (a b : A). rank a < rank b) x (y ∷ ys) h))
  where
    below : (a b : ℕ) → a < b → ltb a b ≡ true
    below a b l = grind (arith, l)

-- different numbers: each once
one_each : {X : Type 0} (key : X → ℕ) (xs : List X) → AllPairs (λ a b. key a ≢ key b) xs → OneEach key xs
one_each key [] h n = omega arith
one_each {X} key (x ∷ xs) h n =
    elim (cases_eq (key x) n) [
      | inl same ↦ omega (arith, count_cons (λ (y : X). key y == n) x xs, none xs (λ y there e. All-contains (λ (b : X). key x ≢ key b) xs y (pairs_head (λ (a b : X). key a ≢ key b) x xs h) there (same ∙ sym e)), bit (key x == n))
      | inr other ↦
          let nothing : ◌≡◌ {A = ℕ} (cond (key x == n) 1 0) 0 = rw (ne_eqb (key x) n other) refl in
          omega (arith, count_cons (λ (y : X). key y == n) x xs, nothing, one_each key xs (pairs_tail (λ (a b : X). key a ≢ key b) x xs h) n)
    ]
  where
    bit : (b : Bool) → cond b 1 0 ≤ 1
    bit true = omega arith
    bit false = omega arith

    none : (ys : List X) → ((y : X) → Contains ys y → key y ≢ n) → count_by (λ (y : X). key y == n) ys ≡ 0
    none [] others = refl
    none (y ∷ ys) others =
        let nothing : ◌≡◌ {A = ℕ} (cond (key y == n) 1 0) 0 = rw (ne_eqb (key y) n (others y (contains_here y ys))) refl in
        omega (arith, count_cons (λ (z : X). key z == n) y ys, nothing, none ys (λ z there. others z (contains_there y ys z there)))

-- ---- gates

positive : (n : ℕ) → ltb 0 n ≡ true → 0 < n
positive n h = grind (arith, h)

is_positive : (n : ℕ) → 0 < n → ltb 0 n ≡ true
is_positive n h = grind (arith, h)

gate_from : (f : Fingers) (g : ℕ) → has_finger f g ≡ true → IsGate f g
gate_from f g h = elim (or_cases (ltb 0 (on_gate g f.p)) (ltb 0 (on_gate g f.n)) h) [
  | inl p ↦ omega (arith, positive (on_gate g f.p) p)
  | inr n ↦ omega (arith, positive (on_gate g f.n) n)
]

gate_to : (f : Fingers) (g : ℕ) → IsGate f g → has_finger f g ≡ true
gate_to f g some = elim (cases_lt 0 (on_gate g f.p)) [
  | inl p ↦ or_left (ltb 0 (on_gate g f.p)) (ltb 0 (on_gate g f.n)) (is_positive (on_gate g f.p) p)
  | inr none ↦ or_right (ltb 0 (on_gate g f.p)) (ltb 0 (on_gate g f.n)) (is_positive (on_gate g f.n) (omega (arith, some, none)))
]

-- a net is listed where it passes
listed_from : (p : ℕ → Bool) (m : ℕ) (g : NetNo) → Contains (map net (filter p (range_with_len 0 m))) g → (p g.0 ≡ true) × (g.0 < m)
listed_from p m g there =
    let i : Image net (filter p (range_with_len 0 m)) g = in_map net (filter p (range_with_len 0 m)) g there in
    let s : Passes p (range_with_len 0 m) i.of = passes_from p (range_with_len 0 m) i.of i.listed in
    let same : i.of ≡ g.0 = ap (λ (w : NetNo). w.0) i.is in
    (subst (λ (v : ℕ). p v ≡ true) same s.passes, omega (arith, sym same, range_below m i.of s.there))

listed_to : (p : ℕ → Bool) (m : ℕ) (g : NetNo) → p g.0 ≡ true → g.0 < m → Contains (map net (filter p (range_with_len 0 m))) g
listed_to p m g h l = contains_map net (filter p (range_with_len 0 m)) g.0 (passes_to p (range_with_len 0 m) g.0 (range_has m g.0 l) h)

nets_differ : (p : ℕ → Bool) (m : ℕ) → AllPairs (λ (a b : NetNo). a.0 ≢ b.0) (map net (filter p (range_with_len 0 m)))
nets_differ p m i j d less short = λ e. omega (arith, nets_ascend p m i j d less short, e)

pub order_is : (f : Fingers) (order : List NetNo) → AreFingers f → IsPermutation (gates_of f) order → IsOrder f order
order_is f order ok p = record {
  once = pairs_differ net_rank order (one_each_permutation net_rank (gates_of f) order p (one_each net_rank (gates_of f) (nets_differ (has_finger f) f.nets)));
  gates = All-permutation (λ (g : NetNo). IsGate f g.0) (gates_of f) order p (all_from_contains (λ (g : NetNo). IsGate f g.0) (gates_of f) (λ g there. gate_from f g.0 (listed_from (has_finger f) f.nets g there).0));
  all_gates = λ g some. Contains-permutation (gates_of f) order g p (listed_to (has_finger f) f.nets g (gate_to f g.0 some) (is_net_gate f g.0 ok some));
}

pub order_fits : (f : Fingers) (order : List NetNo) → AreFingers f → IsOrder f order → All (NetFits f.nets) order
order_fits f order ok is = all_from_contains (NetFits f.nets) order (λ g there. is_net_gate f g.0 ok (All-contains (λ (h : NetNo). IsGate f h.0) order g is.gates there))

-- there are no more gates than columns
pub order_short : (f : Fingers) (order : List NetNo) → AreFingers f → IsOrder f order → length order ≤ 32
order_short f order ok is =
    omega (arith, ok.few_columns, sum_keys net_rank order f.nets (order_fits f order ok is), sum_below_mono (λ g. count_by (λ (x : NetNo). x.0 == g) order) (λ g. max (on_gate g f.p) (on_gate g f.n)) f.nets at)
  where
    one : OneEach net_rank order
    one = one_each net_rank order is.once

    gate_of : (g : ℕ) → 0 < count_by (λ (x : NetNo). x.0 == g) order → IsGate f g
    gate_of g some =
        elim (cases_Bool (list_any (λ (x : NetNo). x.0 == g) order)) [
          | inl on ↦
              let x : Some' (λ (x : NetNo). (x.0 == g) ≡ true) order = test_finds (λ (x : NetNo). x.0 == g) order on in
              subst (IsGate f) (eqb-true x.it.0 g x.holds) (All-contains (λ (h : NetNo). IsGate f h.0) order x.it is.gates x.there)
          | inr off ↦ absurd (omega (arith, some, none_counted (λ (x : NetNo). x.0 == g) order off))
        ]

    at : (g : ℕ) → count_by (λ (x : NetNo). x.0 == g) order ≤ max (on_gate g f.p) (on_gate g f.n)
    at g = elim (cases_lt 0 (count_by (λ (x : NetNo). x.0 == g) order)) [
      | inl some ↦ omega (arith, one g, gate_of g some)
      | inr none ↦ omega (arith, none)
    ]

-- ---- filled gates

pub uneven_has : (f : Fingers) (g : NetNo) → AreFingers f → IsGate f g.0 → is_uneven f g.0 ≡ true → Contains (uneven_gates f) g
uneven_has f g ok some uneven = listed_to (is_uneven f) f.nets g uneven (is_net_gate f g.0 ok some)

pub fill_fits : (f : Fingers) (order : List NetNo) → All (NetFits f.nets) (filled_gates f order)
fill_fits f order =
    All-filter (λ (g : NetNo). not (is_one_of (opened_gates f order) g)) (NetFits f.nets) (uneven_gates f)
    (all_from_contains (NetFits f.nets) (uneven_gates f) (λ g there. (listed_from (is_uneven f) f.nets g there).1))

pub fill_increases : (f : Fingers) (order : List NetNo) → increases net_rank (filled_gates f order) ≡ true
fill_increases f order =
    increases_from net_rank (filled_gates f order)
    (AllPairs-filter (λ (a b : NetNo). a.0 < b.0) (λ (g : NetNo). not (is_one_of (opened_gates f order) g)) (uneven_gates f) (nets_ascend (is_uneven f) f.nets))

-- ---- one gate after another

pub one_placed : (f : Fingers) (order placed left rest : List NetNo) (at : ℕ) (gate : NetNo) → at < length left → gate ≡ get_or left at gate → rest ≡ remove left at → placed ≡ order ++ gate ∷ [] → IsPermutation (gates_of f) (order ++ left) → IsPermutation (gates_of f) (placed ++ rest)
one_placed f order placed left rest at gate within is less more p =
    subst (λ (xs : List NetNo). IsPermutation (gates_of f) (xs ++ rest)) (sym more) (subst (λ (xs : List NetNo). IsPermutation (gates_of f) ((order ++ gate ∷ []) ++ xs)) (sym less) (IsPermutation-more (gates_of f) order left at gate within is p))

pub all_placed : (f : Fingers) (order left : List NetNo) → AreFingers f → length left ≡ 0 → IsPermutation (gates_of f) (order ++ left) → IsOrder f order
all_placed f order [] ok none p = order_is f order ok (subst (IsPermutation (gates_of f)) (append-nil order) p)
all_placed f order (x ∷ xs) ok none p = absurd (omega (arith, none))
