-- The wires of the pieces make a channel, whose constraints are those between the pieces.
use Rattle.std.proofs.Common.{ℕ, ◌≡◌, ◌≢◌, ◌<◌, ◌≤◌, ◌⊎◌, List, inl, inr, refl, sym, ap, subst, arith, Contains, get_or}
use Rattle.std.proofs.lemmas.List.Elements.{All-contains}
use Rattle.cell_num.specs.declared.net.NetNo.{NetNo}
use Rattle.cell_num.specs.declared.net.Pins.{Pins}
use Rattle.cell_num.specs.declared.finger.Row.TheVariants.{P, N}
use Rattle.cell_num.proofs.Lists.{all_from_contains}
use Rattle.cell_num.proofs.Pairs.{any_at, one_each_same}
use Rattle.row_place.specs.declared.placement.NodePlace.{NodePlace}
use Rattle.row_place.specs.declared.placement.Placement.{Placement}
use Rattle.row_place.specs.Trunks.{IsAbove}
use Rattle.channel_route.specs.declared.wire.Wire.{Wire}
use Rattle.channel_route.specs.declared.constraint.Constraint.{Constraint}
use Rattle.channel_route.specs.Graph.{IsBefore, AreDistinct, IsChannel}
use Rattle.channel_route.specs.Turn.{IsOver}
use Rattle.channel_route.specs.Wires.{constraints_of}
use Rattle.channel_route.proofs.ConstraintsOf.{Holds, IsPairOver, KeysAscend, pair_is}
use Rattle.channel_route.proofs.OneRouting.{either}
use Rattle.dogleg_route.specs.Pieces.{IsPiece}
use Rattle.dogleg_route.specs.PieceWires.{IsPieceWire, ComesBefore, ArePieceWires}
use Rattle.dogleg_route.proofs.Marks.{IsStacked, ascends, stacked, one_right, ends_at}
use Rattle.dogleg_route.proofs.Sorting.{one_each_from_pairs}

pub piece_of : (p : Placement) (pins : Pins) (wires : List Wire) → ArePieceWires p pins wires → (w : Wire) → Contains wires w → IsPiece p pins w.net w.left w.right
piece_of p pins wires h w there = All-contains (IsPieceWire p pins) wires w h.each there

pub distinct : (p : Placement) (pins : Pins) (wires : List Wire) → ArePieceWires p pins wires → AreDistinct wires
distinct p pins wires h = one_each_from_pairs (λ (w : Wire). w.key) wires (λ i j d less short e. omega (arith, (h.order i j d less short).keys, e))

pub same_key : (p : Placement) (pins : Pins) (wires : List Wire) → ArePieceWires p pins wires → (a b : Wire) → Contains wires a → Contains wires b → a.key ≡ b.key → a ≡ b
same_key p pins wires h a b ha hb e = one_each_same (λ (w : Wire). w.key) wires a b (distinct p pins wires h) ha hb e

-- wires in order of key are in the order of lines
pub key_less : (p : Placement) (pins : Pins) (wires : List Wire) → ArePieceWires p pins wires → (a b : Wire) → Contains wires a → Contains wires b → a.key < b.key → ComesBefore a b
key_less p pins wires h a b ha hb less =
    elim (either ComesBefore wires a b h.order ha hb) [
      | inl same ↦ absurd (let e : a.key ≡ b.key = ap (λ (w : Wire). w.key) same in omega (arith, e, less))
      | inr other ↦ elim other [ inl before ↦ before | inr behind ↦ absurd (omega (arith, behind.keys, less)) ]
    ]

-- a piece has one wire
pub same_wire : (p : Placement) (pins : Pins) (wires : List Wire) → ArePieceWires p pins wires → (a b : Wire) → Contains wires a → Contains wires b → a.net ≡ b.net → a.left ≡ b.left → a ≡ b
same_wire p pins wires h a b ha hb net left =
    elim (either ComesBefore wires a b h.order ha hb) [
      | inl same ↦ same
      | inr other ↦ absurd (elim other [ inl before ↦ never a b before net left right | inr behind ↦ never b a behind (sym net) (sym left) (sym right) ])
    ]
  where
    right : a.right ≡ b.right
    right = one_right p pins a.net a.left a.right b.right (piece_of p pins wires h a ha) (subst (λ n. IsPiece p pins n a.left b.right) (sym net) (subst (λ l. IsPiece p pins b.net l b.right) (sym left) (piece_of p pins wires h b hb)))

    never : (x y : Wire) → ComesBefore x y → x.net ≡ y.net → x.left ≡ y.left → x.right ≡ y.right → ⊥
    never x y before net left right = by before.lines
      where
        by : (x.left < y.left) ⊎ ((x.left ≡ y.left) × ((x.right < y.right) ⊎ ((x.right ≡ y.right) × (x.net.0 < y.net.0)))) → ⊥
        by (inl less) = omega (arith, less, left)
        by (inr (_, inl less)) = omega (arith, less, right)
        by (inr (_, inr (_, less))) = omega (arith, less, ap (λ (n : NetNo). n.0) net)

before_of : (a b : Wire) → ComesBefore a b → IsBefore a b
before_of a b c = by c.lines
  where
    by : (a.left < b.left) ⊎ ((a.left ≡ b.left) × ((a.right < b.right) ⊎ ((a.right ≡ b.right) × (a.net.0 < b.net.0)))) → IsBefore a b
    by (inl less) = inl less
    by (inr (same, _)) = inr (same, c.keys)

stacked_wires : (p : Placement) (pins : Pins) (wires : List Wire) → ArePieceWires p pins wires → (a b : Wire) → Contains wires a → Contains wires b → a.net ≡ b.net → IsBefore a b → a.right ≤ b.left
stacked_wires p pins wires h a b ha hb net (inl less) =
    let s : IsStacked a.right b.left b.right = stacked p pins a.net a.left a.right b.left b.right (piece_of p pins wires h a ha) (subst (λ n. IsPiece p pins n b.left b.right) (sym net) (piece_of p pins wires h b hb)) less in s.ends
stacked_wires p pins wires h a b ha hb net (inr (same, less)) =
    let e : a.key ≡ b.key = ap (λ (w : Wire). w.key) (same_wire p pins wires h a b ha hb net same) in absurd (omega (arith, e, less))

-- what the fill asks
pub channel : (p : Placement) (pins : Pins) (wires : List Wire) → ArePieceWires p pins wires → IsChannel wires (constraints_of wires p.nodes)
channel p pins wires h = record {
  distinct = distinct p pins wires h;
  order = λ i j d less short. before_of (get_or wires i d) (get_or wires j d) (h.order i j d less short);
  spans = all_from_contains (λ (w : Wire). w.left ≤ w.right) wires (λ w there. ascends p pins w.net w.left w.right (piece_of p pins wires h w there));
  stacked = stacked_wires p pins wires h;
  lower = λ c there. let pair : IsPairOver wires p.nodes c = pair_is wires p.nodes c there in any_at (λ (w : Wire). w.key ≡ c.lower) wires pair.lower pair.lower_there pair.lower_key;
}

pub keys_ascend : (p : Placement) (pins : Pins) (wires : List Wire) → ArePieceWires p pins wires → KeysAscend wires
keys_ascend p pins wires h i j d less short same = omega (arith, (h.order i j d less short).keys)

-- what the walk down asks: no wire stands above itself
pub upper_not_lower : (p : Placement) (pins : Pins) (wires : List Wire) → ArePieceWires p pins wires → (c : Constraint) → Contains (constraints_of wires p.nodes) c → c.upper ≢ c.lower
upper_not_lower p pins wires h c there e =
    let pair : IsPairOver wires p.nodes c = pair_is wires p.nodes c there in
    pair.differ (ap (λ (w : Wire). w.net) (same_key p pins wires h pair.upper pair.lower pair.upper_there pair.lower_there (omega (arith, e, pair.upper_key, pair.lower_key))))

-- the piece of one wire stands above that of the other, and both end at the line
pub record IsWireAbove (p : Placement) (pins : Pins) (a b : Wire) (line : ℕ) : Type 0 where
  pub over : IsAbove p pins a.net b.net line
  pub upper_ends : (a.left ≡ line) ⊎ (a.right ≡ line)
  pub lower_ends : (b.left ≡ line) ⊎ (b.right ≡ line)

ends_on : (p : Placement) (pins : Pins) (w : Wire) (node : NodePlace) → IsPiece p pins w.net w.left w.right → Contains p.nodes node → node.net ≡ w.net → Holds w node.line → (w.left ≡ node.line) ⊎ (w.right ≡ node.line)
ends_on p pins w node piece there of h = ends_at p pins w.net w.left w.right node.line piece (inr (inr (record { node = node; there = there; of = of; at = refl }))) h.0 h.1

pub pair_above : (p : Placement) (pins : Pins) (wires : List Wire) → ArePieceWires p pins wires → (c : Constraint) (pair : IsPairOver wires p.nodes c) → IsWireAbove p pins pair.upper pair.lower c.line
pair_above p pins wires h c pair =
    let upper : IsPiece p pins pair.upper.net pair.upper.left pair.upper.right = piece_of p pins wires h pair.upper pair.upper_there in
    let lower : IsPiece p pins pair.lower.net pair.lower.left pair.lower.right = piece_of p pins wires h pair.lower pair.lower_there in
    record {
      over = record { p = pair.p; n = pair.n; differ = pair.differ; upper_trunk = upper.trunk; lower_trunk = lower.trunk };
      upper_ends = ends_on p pins pair.upper (record { row = P; line = c.line; net = pair.upper.net }) upper pair.p refl pair.upper_holds;
      lower_ends = ends_on p pins pair.lower (record { row = N; line = c.line; net = pair.lower.net }) lower pair.n refl pair.lower_holds;
    }

-- a constraint is between pieces
pub wire_above : (p : Placement) (pins : Pins) (wires : List Wire) → ArePieceWires p pins wires → (a b : Wire) → Contains wires a → Contains wires b → (line : ℕ) → IsOver (constraints_of wires p.nodes) a.key b.key line → IsWireAbove p pins a b line
wire_above p pins wires h a b ha hb line there =
    let c : Constraint = record { upper = a.key; lower = b.key; line = line } in
    let pair : IsPairOver wires p.nodes c = pair_is wires p.nodes c there in
    subst (λ z. IsWireAbove p pins z b line) (same_key p pins wires h pair.upper a pair.upper_there ha pair.upper_key)
    (subst (λ z. IsWireAbove p pins pair.upper z line) (same_key p pins wires h pair.lower b pair.lower_there hb pair.lower_key) (pair_above p pins wires h c pair))
