-- A wire for each net with a trunk, in order.
use Rattle.std.proofs.Common.{ℕ, ◌≡◌, ◌≢◌, ◌+◌, ◌<◌, ◌≤◌, ◌⊎◌, ◌++◌, ◌==◌, ltb, true, false, cond, List, [], ◌∷◌, map, filter, length, take, take_all, get_or, inl, inr, refl, sym, ap, subst, arith, All, Bool, Contains, IsPermutation, IsSorted, length-append}
use Rattle.std.specs.declared.cmp.Ordering.TheVariants.{Less, Equal}
use Rattle.std.specs.Ordering.{nat_cmp, is_lt}
use Rattle.std.proofs.lemmas.Bool.{cases_Bool, cases_order, eq-eqb, lt-ltb, ltb-true}
use Rattle.std.proofs.lemmas.List.Elements.{All-contains, All-more, All-push, All-weaker}
use Rattle.std.proofs.lemmas.List.Sorted.{All-permutation, list_any-IsPermutation}
use Rattle.cell_num.specs.declared.net.NetNo.{NetNo}
use Rattle.cell_num.specs.declared.net.Pins.{Pins}
use Rattle.row_model.proofs.Decide.{net_decides}
use Rattle.row_place.specs.declared.placement.NodePlace.{NodePlace}
use Rattle.row_place.specs.declared.placement.GatePlace.{GatePlace}
use Rattle.row_place.specs.declared.placement.Placement.{Placement}
use Rattle.row_place.specs.Trunks.{lines_of, HasPins, HasTrunk}
use Rattle.cell_num.proofs.Lists.{contains_none, contains_cons, contains_here, contains_there}
use Rattle.channel_route.specs.declared.wire.Wire.{Wire}
use Rattle.channel_route.specs.Graph.{IsBefore, has_key}
use Rattle.channel_route.specs.Wires.{IsWire, AreFound, AreWires, wire_cmp}
use Rattle.cell_num.proofs.Pairs.{Some', OneEach, one_each_permutation, one_each_push, pairs_from_sorted}

pub found_push : (p : Placement) (pins : Pins) (wires : List Wire) (w : Wire) → AreFound p pins wires → has_key wires w.key ≡ false → IsWire p pins w → AreFound p pins (wires ++ w ∷ [])
found_push p pins wires w found new is = record {
  each = All-push (IsWire p pins) wires w found.each is;
  distinct = one_each_push (λ (w : Wire). w.key) wires w found.distinct new;
}

-- a part of a list with a net has a line
part_none : {X : Type 0} (net : X → NetNo) (line : X → ℕ) (xs : List X) (n : NetNo) → 0 < length (map line (filter (λ x. (net x).0 == n.0) xs)) → Some' (λ x. net x ≡ n) xs
part_none net line [] n h = absurd (omega (arith, h))
part_none {X} net line (x ∷ xs) n h =
    elim (cases_Bool ((net x).0 == n.0)) [
      | inl here ↦ record { it = x; there = contains_here x xs; holds = (net_decides (net x) n).0 here }
      | inr other ↦ more (part_none net line xs n (subst (λ b. 0 < length (map line (cond b (x ∷ filter (λ x. (net x).0 == n.0) xs) (filter (λ x. (net x).0 == n.0) xs)))) other h))
    ]
  where
    more : Some' (λ x. net x ≡ n) xs → Some' (λ x. net x ≡ n) (x ∷ xs)
    more s = record { it = s.it; there = contains_there x xs s.it s.there; holds = s.holds }

-- the line of an element is among those of its net
pub line_kept : {X : Type 0} (net : X → NetNo) (line : X → ℕ) (xs : List X) (x : X) → Contains xs x → Contains (map line (filter (λ y. (net y).0 == (net x).0) xs)) (line x)
line_kept net line [] x there = absurd (contains_none x there)
line_kept {X} net line (y ∷ ys) x there = step ((net y).0 == (net x).0) refl (λ rest. line_kept net line ys x rest)
  where
    kept : List X
    kept = filter (λ z. (net z).0 == (net x).0) ys

    step : (b : Bool) → ((net y).0 == (net x).0) ≡ b → (Contains ys x → Contains (map line kept) (line x)) → Contains (map line (cond b (y ∷ kept) kept)) (line x)
    step true e more = elim (contains_cons y ys x there) [ inl same ↦ subst (λ z. Contains (line y ∷ map line kept) (line z)) same (contains_here (line y) (map line kept)) | inr rest ↦ contains_there (line y) (map line kept) (line x) (more rest) ]
    step false e more = elim (contains_cons y ys x there) [ inl same ↦ absurd (let here : ((net y).0 == (net x).0) ≡ true = eq-eqb (net y).0 (net x).0 (ap (λ z. (net z).0) same) in cc) | inr rest ↦ more rest ]

-- the net of a trunk is found at its places
pub all_found : (p : Placement) (pins : Pins) (wires : List Wire) → HasPins p pins → All (λ (node : NodePlace). HasTrunk p pins node.net → has_key wires node.net.0 ≡ true) p.nodes → All (λ (gate : GatePlace). HasTrunk p pins gate.net → has_key wires gate.net.0 ≡ true) p.gates → (net : NetNo) → HasTrunk p pins net → has_key wires net.0 ≡ true
all_found p pins wires has nodes gates net trunk = place (some trunk.1)
  where
    some : (2 ≤ length (lines_of p net)) ⊎ (net.0 < pins.pins) → 0 < length (lines_of p net)
    some (inl two) = omega (arith, two)
    some (inr pin) = has net pin trunk.0

    node_lines : List ℕ
    node_lines = map (λ (node : NodePlace). node.line) (filter (λ (node : NodePlace). node.net.0 == net.0) p.nodes)

    gate_lines : List ℕ
    gate_lines = map (λ (gate : GatePlace). gate.line) (filter (λ (gate : GatePlace). gate.net.0 == net.0) p.gates)

    place : 0 < length (lines_of p net) → has_key wires net.0 ≡ true
    place h =
        elim (cases_order (length node_lines) 0) [
          | inl none ↦
              let g : Some' (λ (gate : GatePlace). gate.net ≡ net) p.gates = part_none (λ (gate : GatePlace). gate.net) (λ (gate : GatePlace). gate.line) p.gates net (omega (arith, h, none, length-append node_lines gate_lines)) in
              subst (λ (n : NetNo). has_key wires n.0 ≡ true) g.holds (All-contains (λ (gate : GatePlace). HasTrunk p pins gate.net → has_key wires gate.net.0 ≡ true) p.gates g.it gates g.there (subst (λ n. HasTrunk p pins n) (sym g.holds) trunk))
          | inr other ↦
              let positive : 0 < length node_lines = elim other [ inl less ↦ absurd (omega (arith, less)) | inr more ↦ more ] in
              let s : Some' (λ (node : NodePlace). node.net ≡ net) p.nodes = part_none (λ (node : NodePlace). node.net) (λ (node : NodePlace). node.line) p.nodes net positive in
              subst (λ (n : NetNo). has_key wires n.0 ≡ true) s.holds (All-contains (λ (node : NodePlace). HasTrunk p pins node.net → has_key wires node.net.0 ≡ true) p.nodes s.it nodes s.there (subst (λ n. HasTrunk p pins n) (sym s.holds) trunk))
        ]

-- one more net
pub nets_more : {X : Type 0} (net : X → NetNo) (p : Placement) (pins : Pins) (xs : List X) (at : ℕ) (d : X) (old new : List Wire) → at < length xs → ((key : ℕ) → has_key old key ≡ true → has_key new key ≡ true) → (HasTrunk p pins (net (get_or xs at d)) → has_key new (net (get_or xs at d)).0 ≡ true) → All (λ x. HasTrunk p pins (net x) → has_key old (net x).0 ≡ true) (take at xs) → All (λ x. HasTrunk p pins (net x) → has_key new (net x).0 ≡ true) (take (at + 1) xs)
nets_more net p pins xs at d old new short kept here h =
    All-more (λ x. HasTrunk p pins (net x) → has_key new (net x).0 ≡ true) xs at d short (nets_kept net p pins (take at xs) old new kept h) here
  where
    nets_kept : {X : Type 0} (net : X → NetNo) (p : Placement) (pins : Pins) (xs : List X) (old new : List Wire) → ((key : ℕ) → has_key old key ≡ true → has_key new key ≡ true) → All (λ x. HasTrunk p pins (net x) → has_key old (net x).0 ≡ true) xs → All (λ x. HasTrunk p pins (net x) → has_key new (net x).0 ≡ true) xs
    nets_kept net p pins xs old new kept h = All-weaker (λ x. HasTrunk p pins (net x) → has_key old (net x).0 ≡ true) (λ x. HasTrunk p pins (net x) → has_key new (net x).0 ≡ true) (λ x f trunk. kept (net x).0 (f trunk)) xs h

pub nets_same : {X : Type 0} (net : X → NetNo) (p : Placement) (pins : Pins) (xs : List X) (old new : List Wire) → ((key : ℕ) → has_key old key ≡ true → has_key new key ≡ true) → All (λ x. HasTrunk p pins (net x) → has_key old (net x).0 ≡ true) xs → All (λ x. HasTrunk p pins (net x) → has_key new (net x).0 ≡ true) xs
nets_same net p pins xs old new kept h = All-weaker (λ x. HasTrunk p pins (net x) → has_key old (net x).0 ≡ true) (λ x. HasTrunk p pins (net x) → has_key new (net x).0 ≡ true) (λ x f trunk. kept (net x).0 (f trunk)) xs h

pub nets_all : {X : Type 0} (net : X → NetNo) (p : Placement) (pins : Pins) (xs : List X) (at : ℕ) (wires : List Wire) → length xs ≤ at → All (λ x. HasTrunk p pins (net x) → has_key wires (net x).0 ≡ true) (take at xs) → All (λ x. HasTrunk p pins (net x) → has_key wires (net x).0 ≡ true) xs
nets_all net p pins xs at wires end h = subst (λ ys. All (λ x. HasTrunk p pins (net x) → has_key wires (net x).0 ≡ true) ys) (take_all at xs end) h

-- the order of wires
before_trans : (a b c : Wire) → IsBefore a b → IsBefore b c → IsBefore a c
before_trans a b c (inl e) (inl f) = inl (omega (arith, e, f))
before_trans a b c (inl e) (inr (f, _)) = inl (omega (arith, e, f))
before_trans a b c (inr (e, _)) (inl f) = inl (omega (arith, e, f))
before_trans a b c (inr (e, m)) (inr (f, n)) = inr (omega (arith, e, f), omega (arith, m, n))

pub cmp_less : (a b : ℕ) → a < b → nat_cmp a b ≡ Less
cmp_less a b h = rw (lt-ltb a b h) refl

cmp_same : (a b : ℕ) → a ≡ b → nat_cmp a b ≡ Equal
cmp_same a b h = subst (λ n. nat_cmp a n ≡ Equal) h (self a)
  where
    self : (a : ℕ) → nat_cmp a a ≡ Equal
    self a = rw (not_below a) (rw (eq-eqb a a refl) refl)
      where
        not_below : (a : ℕ) → ltb a a ≡ false
        not_below a = elim (cases_Bool (ltb a a)) [ inl less ↦ absurd (let wrong : a < a = ltb-true a a less in omega (arith, wrong)) | inr fine ↦ fine ]

before_from_cmp : (a b : Wire) → is_lt (wire_cmp b a) ≡ false → a.key ≢ b.key → IsBefore a b
before_from_cmp a b e differ =
    elim (cases_order a.left b.left) [
      | inl same ↦ elim (cases_order a.key b.key) [
        | inl one ↦ absurd (differ one)
        | inr other ↦ elim other [ inl less ↦ inr (same, less) | inr more ↦ absurd (wrong_key same more) ]
      ]
      | inr other ↦ elim other [ inl less ↦ inl less | inr more ↦ absurd (wrong_left more) ]
    ]
  where
    wrong_left : b.left < a.left → ⊥
    wrong_left h = let lt : is_lt (wire_cmp b a) ≡ true = rw (cmp_less b.left a.left h) refl in cc

    wrong_key : a.left ≡ b.left → b.key < a.key → ⊥
    wrong_key same h = let lt : is_lt (wire_cmp b a) ≡ true = rw (cmp_same b.left a.left (sym same)) (rw (cmp_less b.key a.key h) refl) in cc

pub wires_sorted : (p : Placement) (pins : Pins) (wires sorted : List Wire) → HasPins p pins → AreFound p pins wires → All (λ (node : NodePlace). HasTrunk p pins node.net → has_key wires node.net.0 ≡ true) p.nodes → All (λ (gate : GatePlace). HasTrunk p pins gate.net → has_key wires gate.net.0 ≡ true) p.gates → IsPermutation wires sorted → IsSorted wire_cmp sorted → AreWires p pins sorted
wires_sorted p pins wires sorted has found nodes gates moved order = record {
  found = record { each = All-permutation (IsWire p pins) wires sorted moved found.each; distinct = distinct };
  all = λ net trunk. subst (λ b. b ≡ true) (list_any-IsPermutation (λ (w : Wire). w.key == net.0) wires sorted moved) (all_found p pins wires has nodes gates net trunk);
  order = pairs_from_sorted (λ a b. is_lt (wire_cmp a b)) (λ (w : Wire). w.key) IsBefore before_trans before_from_cmp sorted order distinct;
}
  where
    distinct : OneEach (λ (w : Wire). w.key) sorted
    distinct = one_each_permutation (λ (w : Wire). w.key) wires sorted moved found.distinct

-- the least and the greatest so far
pub low_more : (lines : List ℕ) (at least now : ℕ) → at < length lines → now ≤ least → now ≤ get_or lines at 0 → All (λ line. least ≤ line) (take at lines) → All (λ line. now ≤ line) (take (at + 1) lines)
low_more lines at least now short lower here h = All-more (λ line. now ≤ line) lines at 0 short (All-weaker (λ line. least ≤ line) (λ line. now ≤ line) (λ line e. omega (arith, e, lower)) (take at lines) h) here

pub high_more : (lines : List ℕ) (at greatest now : ℕ) → at < length lines → greatest ≤ now → get_or lines at 0 ≤ now → All (λ line. line ≤ greatest) (take at lines) → All (λ line. line ≤ now) (take (at + 1) lines)
high_more lines at greatest now short higher here h = All-more (λ line. line ≤ now) lines at 0 short (All-weaker (λ line. line ≤ greatest) (λ line. line ≤ now) (λ line e. omega (arith, e, higher)) (take at lines) h) here
