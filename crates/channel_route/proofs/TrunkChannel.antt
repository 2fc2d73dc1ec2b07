-- The wires of the nets with a trunk make a channel, whose constraints are those between the nets.
use Rattle.std.proofs.Common.{ℕ, ◌≡◌, ◌≤◌, ◌==◌, true, List, inl, inr, refl, sym, ap, subst, arith, Contains}
use Rattle.std.proofs.lemmas.Bool.{eqb-true}
use Rattle.std.proofs.lemmas.List.Elements.{All-contains, Contains-append_left}
use Rattle.cell_num.specs.declared.net.NetNo.{NetNo}
use Rattle.cell_num.specs.declared.net.Pins.{Pins}
use Rattle.cell_num.specs.declared.finger.Row.TheVariants.{P, N}
use Rattle.row_place.specs.declared.placement.NodePlace.{NodePlace}
use Rattle.row_place.specs.declared.placement.Placement.{Placement}
use Rattle.row_place.specs.Trunks.{lines_of, HasTrunk, IsAbove}
use Rattle.cell_num.proofs.Lists.{all_from_contains}
use Rattle.cell_num.proofs.Pairs.{Some', any_at, test_finds, one_each_same}
use Rattle.channel_route.specs.declared.wire.Wire.{Wire}
use Rattle.channel_route.specs.declared.constraint.Constraint.{Constraint}
use Rattle.channel_route.specs.Graph.{IsBefore, IsChannel}
use Rattle.channel_route.specs.Wires.{IsWire, AreFound, AreWires, constraints_of}
use Rattle.channel_route.proofs.ConstraintsOf.{Holds, IsPairOver, KeysAscend, pair_is, pair_there}
use Rattle.channel_route.proofs.NetWires.{line_kept}

abbrev pub net_of : ℕ → NetNo
net_of number = record { 0 = number }

-- the wire of a net
pub is_wire : (p : Placement) (pins : Pins) (wires : List Wire) → AreWires p pins wires → (w : Wire) → Contains wires w → IsWire p pins w
is_wire p pins wires h w there = All-contains (IsWire p pins) wires w h.found.each there

pub net_is : (p : Placement) (pins : Pins) (w : Wire) → IsWire p pins w → w.net ≡ net_of w.key
net_is p pins w is = ap net_of (sym is.key)

pub wire_of_net : (p : Placement) (pins : Pins) (wires : List Wire) → AreWires p pins wires → (net : NetNo) → HasTrunk p pins net → Some' (λ (w : Wire). w.net ≡ net) wires
wire_of_net p pins wires h net has =
    let w : Some' (λ (w : Wire). (w.key == net.0) ≡ true) wires = test_finds (λ (w : Wire). w.key == net.0) wires (h.all net has) in
    let key : w.it.key ≡ net.0 = eqb-true w.it.key net.0 w.holds in
    let of : w.it.net ≡ net_of w.it.key = net_is p pins w.it (is_wire p pins wires h w.it w.there) in
    record { it = w.it; there = w.there; holds = subst (λ n. w.it.net ≡ net_of n) key of }

-- a wire holds the line of each place of its net
pub holds_node : (p : Placement) (pins : Pins) (w : Wire) → IsWire p pins w → (node : NodePlace) → Contains p.nodes node → node.net ≡ w.net → Holds w node.line
holds_node p pins w is node there same =
    (All-contains (λ line. w.left ≤ line) (lines_of p w.net) node.line is.span.none_before at, All-contains (λ line. line ≤ w.right) (lines_of p w.net) node.line is.span.none_behind at)
  where
    at : Contains (lines_of p w.net) node.line
    at = subst (λ n. Contains (lines_of p n) node.line) same (Contains-append_left _ _ node.line (line_kept (λ (z : NodePlace). z.net) (λ (z : NodePlace). z.line) p.nodes node there))

-- both ways
pub constraint_is : (p : Placement) (pins : Pins) (wires : List Wire) → AreWires p pins wires → (c : Constraint) → Contains (constraints_of wires p.nodes) c → IsAbove p pins (net_of c.upper) (net_of c.lower) c.line
constraint_is p pins wires h c there =
    let pair : IsPairOver wires p.nodes c = pair_is wires p.nodes c there in
    let upper : IsWire p pins pair.upper = is_wire p pins wires h pair.upper pair.upper_there in
    let lower : IsWire p pins pair.lower = is_wire p pins wires h pair.lower pair.lower_there in
    let above : IsAbove p pins pair.upper.net pair.lower.net c.line = record { p = pair.p; n = pair.n; differ = pair.differ; upper_trunk = upper.trunk; lower_trunk = lower.trunk } in
    subst (λ n. IsAbove p pins (net_of c.upper) n c.line) (named pair.lower c.lower lower pair.lower_key) (subst (λ n. IsAbove p pins n pair.lower.net c.line) (named pair.upper c.upper upper pair.upper_key) above)
  where
    named : (w : Wire) (key : ℕ) → IsWire p pins w → w.key ≡ key → w.net ≡ net_of key
    named w key is same = subst (λ n. w.net ≡ net_of n) same (net_is p pins w is)

pub constraint_there : (p : Placement) (pins : Pins) (wires : List Wire) → AreWires p pins wires → (upper lower : NetNo) (line : ℕ) → IsAbove p pins upper lower line → Contains (constraints_of wires p.nodes) (record { upper = upper.0; lower = lower.0; line = line })
constraint_there p pins wires h upper lower line above = found (wire_of_net p pins wires h upper above.upper_trunk) (wire_of_net p pins wires h lower above.lower_trunk)
  where
    between' : (u l : Wire) → IsWire p pins u → IsWire p pins l → Contains wires u → Contains wires l → IsAbove p pins u.net l.net line → Contains (constraints_of wires p.nodes) (record { upper = u.net.0; lower = l.net.0; line = line })
    between' u l iu il hu hl over =
        subst (λ (k : ℕ). Contains (constraints_of wires p.nodes) (record { upper = u.net.0; lower = k; line = line })) il.key
        (subst (λ (k : ℕ). Contains (constraints_of wires p.nodes) (record { upper = k; lower = l.key; line = line })) iu.key
        (pair_there wires p.nodes u l line hu hl over.p over.n over.differ
        (holds_node p pins u iu (record { row = P; line = line; net = u.net }) over.p refl) (holds_node p pins l il (record { row = N; line = line; net = l.net }) over.n refl)))

    found : Some' (λ (w : Wire). w.net ≡ upper) wires → Some' (λ (w : Wire). w.net ≡ lower) wires → Contains (constraints_of wires p.nodes) (record { upper = upper.0; lower = lower.0; line = line })
    found u l =
        subst (λ (n : NetNo). Contains (constraints_of wires p.nodes) (record { upper = n.0; lower = lower.0; line = line })) u.holds
        (subst (λ (n : NetNo). Contains (constraints_of wires p.nodes) (record { upper = u.it.net.0; lower = n.0; line = line })) l.holds
        (between' u.it l.it (is_wire p pins wires h u.it u.there) (is_wire p pins wires h l.it l.there) u.there l.there
        (subst (λ n. IsAbove p pins u.it.net n line) (sym l.holds) (subst (λ n. IsAbove p pins n lower line) (sym u.holds) above))))

-- wires of one net are one
pub one_wire : (p : Placement) (pins : Pins) (wires : List Wire) → AreWires p pins wires → (a b : Wire) → Contains wires a → Contains wires b → a.net ≡ b.net → a ≡ b
one_wire p pins wires h a b ha hb same =
    one_each_same (λ (w : Wire). w.key) wires a b h.found.distinct ha hb (omega (arith, (is_wire p pins wires h a ha).key, (is_wire p pins wires h b hb).key, ap (λ (n : NetNo). n.0) same))

pub keys_ascend : (p : Placement) (pins : Pins) (wires : List Wire) → AreFound p pins wires → KeysAscend wires
keys_ascend p pins wires found i j d less short same =
    omega (arith, (found.each i d (omega (arith, less, short))).key, (found.each j d short).key, ap (λ (n : NetNo). n.0) same)

-- what the fill asks
pub channel : (p : Placement) (pins : Pins) (wires : List Wire) → AreWires p pins wires → IsChannel wires (constraints_of wires p.nodes)
channel p pins wires h = record {
  distinct = h.found.distinct;
  order = h.order;
  spans = all_from_contains (λ (w : Wire). w.left ≤ w.right) wires (λ w there. let is : IsWire p pins w = is_wire p pins wires h w there in All-contains (λ line. line ≤ w.right) _ w.left is.span.none_behind is.span.begins);
  stacked = λ a b ha hb same before. absurd (never a (subst (λ z. IsBefore a z) (sym (one_wire p pins wires h a b ha hb same)) before));
  lower = λ c there. let pair : IsPairOver wires p.nodes c = pair_is wires p.nodes c there in any_at (λ (w : Wire). w.key ≡ c.lower) wires pair.lower pair.lower_there pair.lower_key;
}
  where
    never : (w : Wire) → IsBefore w w → ⊥
    never w (inl less) = omega (arith, less)
    never w (inr (_, less)) = omega (arith, less)
