-- There is a wire for each net with a trunk, in order.
use Rattle.std.proofs.Common.{ℕ, ◌≡◌, ◌≢◌, ◌<◌, ◌≤◌, ◌⊎◌, ◌++◌, ◌==◌, true, false, List, [], ◌∷◌, map, length, get_or, inl, inr, refl, sym, ap, subst, arith, All, Contains}
use Rattle.std.proofs.lemmas.Bool.{cases_Bool, cases_eq, cases_lt, cases_order, eq-eqb}
use Rattle.std.proofs.lemmas.List.Elements.{All-contains, All-cons, All-nil, All-weaker, Contains-append_left, Contains-append_right, Contains-push}
use Rattle.std.proofs.lemmas.List.Sorted.{All-permutation, list_any-IsPermutation}
use Rattle.cell_num.specs.Pins.{IsRail}
use Rattle.cell_num.specs.declared.net.NetNo.{NetNo}
use Rattle.cell_num.specs.declared.net.Pins.{Pins}
use Rattle.cell_num.proofs.In.{contains_map}
use Rattle.cell_num.proofs.Lists.{all_from_contains, all_one, contains_here, contains_there}
use Rattle.cell_num.proofs.Pairs.{Some', one_each_permutation, pairs_differ, test_finds, test_there}
use Rattle.row_model.proofs.Decide.{net_decides}
use Rattle.row_place.specs.declared.placement.GatePlace.{GatePlace}
use Rattle.row_place.specs.declared.placement.NodePlace.{NodePlace}
use Rattle.row_place.specs.declared.placement.Placement.{Placement}
use Rattle.row_place.specs.Trunks.{HasPins, HasTrunk, lines_of}
use Rattle.channel_route.specs.declared.wire.Wire.{Wire}
use Rattle.channel_route.specs.Graph.{IsBefore, has_key}
use Rattle.channel_route.specs.Wires.{AreFound, AreWires, IsWire}
use Rattle.channel_route.proofs.NetWires.{all_found, found_push}
use Rattle.channel_route.proofs.InOrder.{Ordered, sorted}

-- ---- the wire of a net

record HasEnds (lines : List ℕ) : Type 0 where
  pub first : ℕ
  pub last : ℕ
  pub begins : Contains lines first
  pub ends : Contains lines last
  pub none_before : All (λ line. first ≤ line) lines
  pub none_behind : All (λ line. line ≤ last) lines

ends_of : (lines : List ℕ) → 0 < length lines → HasEnds lines
ends_of [] some = absurd (omega (arith, some))
ends_of (x ∷ []) some = record { first = x; last = x; begins = contains_here x []; ends = contains_here x []; none_before = all_one (λ line. x ≤ line) x (omega arith); none_behind = all_one (λ line. line ≤ x) x (omega arith) }
ends_of (x ∷ y ∷ more) some = with' (ends_of (y ∷ more) (omega arith))
  where
    with' : HasEnds (y ∷ more) → HasEnds (x ∷ y ∷ more)
    with' h = record { first = low.0; last = high.0; begins = low.1; ends = high.1; none_before = low.2; none_behind = high.2 }
      where
        low : (n : ℕ) × Contains (x ∷ y ∷ more) n × All (λ line. n ≤ line) (x ∷ y ∷ more)
        low = elim (cases_order x h.first) [
          | inl same ↦ (x, contains_here x (y ∷ more), All-cons (λ line. x ≤ line) x (y ∷ more) (omega arith) (All-weaker (λ line. h.first ≤ line) (λ line. x ≤ line) (λ line e. omega (arith, e, same)) (y ∷ more) h.none_before))
          | inr other ↦ elim other [
            | inl less ↦ (x, contains_here x (y ∷ more), All-cons (λ line. x ≤ line) x (y ∷ more) (omega arith) (All-weaker (λ line. h.first ≤ line) (λ line. x ≤ line) (λ line e. omega (arith, e, less)) (y ∷ more) h.none_before))
            | inr more' ↦ (h.first, contains_there x (y ∷ more) h.first h.begins, All-cons (λ line. h.first ≤ line) x (y ∷ more) (omega (arith, more')) h.none_before)
          ]
        ]

        high : (n : ℕ) × Contains (x ∷ y ∷ more) n × All (λ line. line ≤ n) (x ∷ y ∷ more)
        high = elim (cases_order h.last x) [
          | inl same ↦ (x, contains_here x (y ∷ more), All-cons (λ line. line ≤ x) x (y ∷ more) (omega arith) (All-weaker (λ line. line ≤ h.last) (λ line. line ≤ x) (λ line e. omega (arith, e, same)) (y ∷ more) h.none_behind))
          | inr other ↦ elim other [
            | inl less ↦ (x, contains_here x (y ∷ more), All-cons (λ line. line ≤ x) x (y ∷ more) (omega arith) (All-weaker (λ line. line ≤ h.last) (λ line. line ≤ x) (λ line e. omega (arith, e, less)) (y ∷ more) h.none_behind))
            | inr more' ↦ (h.last, contains_there x (y ∷ more) h.last h.ends, All-cons (λ line. line ≤ h.last) x (y ∷ more) (omega (arith, more')) h.none_behind)
          ]
        ]

some_lines : (p : Placement) (pins : Pins) (net : NetNo) → HasPins p pins → HasTrunk p pins net → 0 < length (lines_of p net)
some_lines p pins net has trunk = by trunk.1
  where
    by : (2 ≤ length (lines_of p net)) ⊎ (net.0 < pins.pins) → 0 < length (lines_of p net)
    by (inl two) = omega (arith, two)
    by (inr pin) = has net pin trunk.0

record WireOf (p : Placement) (pins : Pins) (net : NetNo) : Type 0 where
  pub it : Wire
  pub is : IsWire p pins it
  pub key : it.key ≡ net.0

wire_of : (p : Placement) (pins : Pins) (net : NetNo) → HasPins p pins → HasTrunk p pins net → WireOf p pins net
wire_of p pins net has trunk =
    let h : HasEnds (lines_of p net) = ends_of (lines_of p net) (some_lines p pins net has trunk) in
    record {
      it = record { left = h.first; key = net.0; right = h.last; net = net };
      is = record { trunk = trunk; span = record { begins = h.begins; ends = h.ends; none_before = h.none_before; none_behind = h.none_behind }; key = refl };
      key = refl;
    }

-- a net has a trunk or has none
cases_trunk : (p : Placement) (pins : Pins) (net : NetNo) → HasTrunk p pins net ⊎ (HasTrunk p pins net → ⊥)
cases_trunk p pins net =
    elim (net_decides' net pins.vdd) [
      | inl vdd ↦ inr (λ trunk. trunk.0 (inl vdd))
      | inr no_vdd ↦ elim (net_decides' net pins.gnd) [
        | inl gnd ↦ inr (λ trunk. trunk.0 (inr gnd))
        | inr no_gnd ↦ elim (cases_lt 1 (length (lines_of p net))) [
          | inl two ↦ inl ((λ rail. no_rail no_vdd no_gnd rail), inl (omega (arith, two)))
          | inr few ↦ elim (cases_lt net.0 pins.pins) [
            | inl pin ↦ inl ((λ rail. no_rail no_vdd no_gnd rail), inr pin)
            | inr none ↦ inr (λ trunk. few_alone few none trunk.1)
          ]
        ]
      ]
    ]
  where
    net_decides' : (a b : NetNo) → (a ≡ b) ⊎ (a ≢ b)
    net_decides' a b = elim (cases_eq a.0 b.0) [ inl same ↦ inl ((net_decides a b).0 (eq-eqb a.0 b.0 same)) | inr other ↦ inr (λ e. other (ap (λ (n : NetNo). n.0) e)) ]

    no_rail : net ≢ pins.vdd → net ≢ pins.gnd → IsRail pins net → ⊥
    no_rail v g (inl vdd) = v vdd
    no_rail v g (inr gnd) = g gnd

    few_alone : length (lines_of p net) ≤ 1 → pins.pins ≤ net.0 → (2 ≤ length (lines_of p net)) ⊎ (net.0 < pins.pins) → ⊥
    few_alone few none (inl two) = omega (arith, few, two)
    few_alone few none (inr pin) = omega (arith, none, pin)

-- ---- wires of nets, one a net

record WiresOf (p : Placement) (pins : Pins) (nets : List NetNo) : Type 0 where
  pub wires : List Wire
  pub found : AreFound p pins wires
  pub all : All (λ (net : NetNo). HasTrunk p pins net → has_key wires net.0 ≡ true) nets

-- a wire is there still where more are added
still_there : (wires : List Wire) (w : Wire) (key : ℕ) → has_key wires key ≡ true → has_key (wires ++ w ∷ []) key ≡ true
still_there wires w key there =
    let s : Some' (λ (z : Wire). (z.key == key) ≡ true) wires = test_finds (λ (z : Wire). z.key == key) wires there in
    test_there (λ (z : Wire). z.key == key) (wires ++ w ∷ []) s.it (Contains-append_left wires (w ∷ []) s.it s.there) s.holds

added : (p : Placement) (pins : Pins) (net : NetNo) (nets : List NetNo) → HasPins p pins → WiresOf p pins nets → WiresOf p pins (net ∷ nets)
added p pins net nets has h =
    elim (cases_Bool (has_key h.wires net.0)) [
      | inl there ↦ record { wires = h.wires; found = h.found; all = All-cons (λ (n : NetNo). HasTrunk p pins n → has_key h.wires n.0 ≡ true) net nets (λ _. there) h.all }
      | inr new ↦ elim (cases_trunk p pins net) [
        | inl trunk ↦ pushed new (wire_of p pins net has trunk)
        | inr none ↦ record { wires = h.wires; found = h.found; all = All-cons (λ (n : NetNo). HasTrunk p pins n → has_key h.wires n.0 ≡ true) net nets (λ trunk. absurd (none trunk)) h.all }
      ]
    ]
  where
    pushed : has_key h.wires net.0 ≡ false → WireOf p pins net → WiresOf p pins (net ∷ nets)
    pushed new w = record {
      wires = h.wires ++ w.it ∷ [];
      found = found_push p pins h.wires w.it h.found (subst (λ n. has_key h.wires n ≡ false) (sym w.key) new) w.is;
      all = All-cons (λ (n : NetNo). HasTrunk p pins n → has_key (h.wires ++ w.it ∷ []) n.0 ≡ true) net nets
          (λ _. test_there (λ (z : Wire). z.key == net.0) (h.wires ++ w.it ∷ []) w.it (Contains-push h.wires w.it) (eq-eqb w.it.key net.0 w.key))
          (All-weaker (λ (n : NetNo). HasTrunk p pins n → has_key h.wires n.0 ≡ true) (λ (n : NetNo). HasTrunk p pins n → has_key (h.wires ++ w.it ∷ []) n.0 ≡ true) (λ n e trunk. still_there h.wires w.it n.0 (e trunk)) nets h.all);
    }

wires_of : (p : Placement) (pins : Pins) (nets : List NetNo) → HasPins p pins → WiresOf p pins nets
wires_of p pins [] has = record { wires = []; found = record { each = All-nil (IsWire p pins); distinct = λ n. omega arith }; all = All-nil (λ (n : NetNo). HasTrunk p pins n → has_key [] n.0 ≡ true) }
wires_of p pins (net ∷ nets) has = added p pins net nets has (wires_of p pins nets has)

-- ---- in order

before_trans : (a b c : Wire) → IsBefore a b → IsBefore b c → IsBefore a c
before_trans a b c (inl ab) (inl bc) = inl (omega (arith, ab, bc))
before_trans a b c (inl ab) (inr (bc, _)) = inl (omega (arith, ab, bc))
before_trans a b c (inr (ab, _)) (inl bc) = inl (omega (arith, ab, bc))
before_trans a b c (inr (ab, x)) (inr (bc, y)) = inr (omega (arith, ab, bc), omega (arith, x, y))

either_before : (a b : Wire) → a.key ≢ b.key → IsBefore a b ⊎ IsBefore b a
either_before a b differ =
    elim (cases_order a.left b.left) [
      | inl same ↦ elim (cases_order a.key b.key) [
        | inl one ↦ absurd (differ one)
        | inr other ↦ elim other [ inl less ↦ inl (inr (same, less)) | inr more ↦ inr (inr (omega (arith, same), more)) ]
      ]
      | inr other ↦ elim other [ inl less ↦ inl (inl less) | inr more ↦ inr (inl more) ]
    ]

pub record TrunkWires (p : Placement) (pins : Pins) : Type 0 where
  pub wires : List Wire
  pub are : AreWires p pins wires

pub trunk_wires : (p : Placement) (pins : Pins) → HasPins p pins → TrunkWires p pins
trunk_wires p pins has = ordered (wires_of p pins (node_nets ++ gate_nets) has)
  where
    node_nets : List NetNo
    node_nets = map (λ (node : NodePlace). node.net) p.nodes

    gate_nets : List NetNo
    gate_nets = map (λ (gate : GatePlace). gate.net) p.gates

    ordered : WiresOf p pins (node_nets ++ gate_nets) → TrunkWires p pins
    ordered h = done (sorted IsBefore before_trans h.wires (λ i j d less short. either_before (get_or h.wires i d) (get_or h.wires j d) (pairs_differ (λ (w : Wire). w.key) h.wires h.found.distinct i j d less short)))
      where
        there : (net : NetNo) → Contains (node_nets ++ gate_nets) net → HasTrunk p pins net → has_key h.wires net.0 ≡ true
        there net at = All-contains (λ (n : NetNo). HasTrunk p pins n → has_key h.wires n.0 ≡ true) (node_nets ++ gate_nets) net h.all at

        all : (net : NetNo) → HasTrunk p pins net → has_key h.wires net.0 ≡ true
        all = all_found p pins h.wires has
            (all_from_contains (λ (node : NodePlace). HasTrunk p pins node.net → has_key h.wires node.net.0 ≡ true) p.nodes (λ node at. there node.net (Contains-append_left node_nets gate_nets node.net (contains_map (λ (z : NodePlace). z.net) p.nodes node at))))
            (all_from_contains (λ (gate : GatePlace). HasTrunk p pins gate.net → has_key h.wires gate.net.0 ≡ true) p.gates (λ gate at. there gate.net (Contains-append_right node_nets gate_nets gate.net (contains_map (λ (z : GatePlace). z.net) p.gates gate at))))

        done : Ordered IsBefore h.wires → TrunkWires p pins
        done o = record {
          wires = o.ys;
          are = record {
            found = record { each = All-permutation (IsWire p pins) h.wires o.ys o.moved h.found.each; distinct = one_each_permutation (λ (w : Wire). w.key) h.wires o.ys o.moved h.found.distinct };
            all = λ net trunk. subst (λ b. b ≡ true) (list_any-IsPermutation (λ (w : Wire). w.key == net.0) h.wires o.ys o.moved) (all net trunk);
            order = o.order;
          };
        }
