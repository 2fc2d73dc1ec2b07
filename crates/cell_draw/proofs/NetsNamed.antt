-- The nets of places are named.
use Rattle.std.proofs.Common.{ℕ, ◌≡◌, ◌<◌, ◌==◌, List, Some, inl, inr, ap, arith, Contains, filter, length, map}
use Rattle.std.proofs.lemmas.List.Elements.{All-contains, Contains-append_cases}
use Rattle.cell_num.specs.declared.net.NetNo.{NetNo}
use Rattle.cell_num.specs.declared.net.Pins.{Pins}
use Rattle.cell_num.specs.declared.finger.Row.{Row}
use Rattle.cell_num.specs.declared.finger.Row.TheVariants.{P, N}
use Rattle.cell_num.specs.declared.finger.Finger.{Finger}
use Rattle.cell_num.specs.Fingers.{IsFinger}
use Rattle.cell_num.proofs.In.{Image, in_map}
use Rattle.cell_num.proofs.Lists.{contains_get}
use Rattle.row_model.proofs.Decide.{net_decides}
use Rattle.row_model.specs.declared.column.Placed.{Placed}
use Rattle.row_model.specs.declared.column.Column.{Column}
use Rattle.row_model.specs.Arrangement.{place}
use Rattle.row_place.specs.declared.placement.NodePlace.{NodePlace}
use Rattle.row_place.specs.declared.placement.GatePlace.{GatePlace}
use Rattle.row_place.specs.declared.placement.Placement.{Placement}
use Rattle.row_place.specs.Places.{IsNode, IsGate, IsPlacement}
use Rattle.row_place.specs.Trunks.{lines_of}
use Rattle.box_geom.proofs.Filters.{IsKept, in_filter}
use Rattle.cell_draw.specs.Sound.{IsSoundRow}
use Rattle.cell_draw.proofs.BridgePlaces.{EndOf, end_of}
use Rattle.cell_draw.proofs.BridgeRow.{p_finger, n_finger}

-- the nets of a finger are named
record AreLow (names : List (List ℕ)) (x : Finger) : Type 0 where
  gate : x.gate.0 < length names
  lo : x.lo.0 < length names
  hi : x.hi.0 < length names

finger_low : (names : List (List ℕ)) (pins : Pins) (row : List Column) (s : IsSoundRow names pins row) → (side : Row) (c : Column) (x : Placed) → Contains row c → place side c ≡ Some x → AreLow names x.finger
finger_low names pins row s N c x there e =
    let is : IsFinger N s.fingers.nets x.finger = All-contains (IsFinger N s.fingers.nets) s.fingers.n x.finger s.sound.n (n_finger names pins row s c x there e) in
    record { gate = omega (arith, is.gate, s.sound.named); lo = omega (arith, is.order, is.ends, s.sound.named); hi = omega (arith, is.ends, s.sound.named) }
finger_low names pins row s P c x there e =
    let is : IsFinger P s.fingers.nets x.finger = All-contains (IsFinger P s.fingers.nets) s.fingers.p x.finger s.sound.p (p_finger names pins row s c x there e) in
    record { gate = omega (arith, is.gate, s.sound.named); lo = omega (arith, is.order, is.ends, s.sound.named); hi = omega (arith, is.ends, s.sound.named) }

pub number : (a b : NetNo) → a ≡ b → a.0 ≡ b.0
number a b e = ap (λ (n : NetNo). n.0) e

pub node_low : (names : List (List ℕ)) (pins : Pins) (p : Placement) (s : IsSoundRow names pins p.row) → (node : NodePlace) → IsNode p.row node → node.net.0 < length names
node_low names pins p s node is =
    let e : EndOf p.row node.row node.net = end_of p.row node is in
    let low : AreLow names e.finger.finger = finger_low names pins p.row s node.row e.column e.finger e.there e.filled in
    elim e.is [
      | inl lo ↦ omega (arith, low.lo, number node.net e.finger.finger.lo lo)
      | inr hi ↦ omega (arith, low.hi, number node.net e.finger.finger.hi hi)
    ]

pub gate_low : (names : List (List ℕ)) (pins : Pins) (p : Placement) (s : IsSoundRow names pins p.row) → (gate : GatePlace) → IsGate p.row gate → gate.net.0 < length names
gate_low names pins p s place is =
    let low : AreLow names is.finger.finger = finger_low names pins p.row s is.side is.column is.finger (contains_get p.row is.at is.column is.stands) is.filled in
    omega (arith, low.gate, number place.net is.finger.finger.gate is.net)

-- a net with a place is named
pub place_low : (names : List (List ℕ)) (pins : Pins) (p : Placement) → IsPlacement p → (s : IsSoundRow names pins p.row) → (net : NetNo) (line : ℕ) → Contains (lines_of p net) line → net.0 < length names
place_low names pins p is s net line there = elim (Contains-append_cases (map (λ (z : NodePlace). z.line) (filter (λ (z : NodePlace). z.net.0 == net.0) p.nodes)) (map (λ (z : GatePlace). z.line) (filter (λ (z : GatePlace). z.net.0 == net.0) p.gates)) line there) [
  | inl c ↦
      let i : Image (λ (z : NodePlace). z.line) (filter (λ (z : NodePlace). z.net.0 == net.0) p.nodes) line = in_map (λ (z : NodePlace). z.line) (filter (λ (z : NodePlace). z.net.0 == net.0) p.nodes) line c in
      let k : IsKept (λ (z : NodePlace). z.net.0 == net.0) p.nodes i.of = in_filter (λ (z : NodePlace). z.net.0 == net.0) p.nodes i.of i.listed in
      omega (arith, node_low names pins p s i.of ((is.nodes i.of).0 k.listed), number i.of.net net ((net_decides i.of.net net).0 k.passes))
  | inr c ↦
      let i : Image (λ (z : GatePlace). z.line) (filter (λ (z : GatePlace). z.net.0 == net.0) p.gates) line = in_map (λ (z : GatePlace). z.line) (filter (λ (z : GatePlace). z.net.0 == net.0) p.gates) line c in
      let k : IsKept (λ (z : GatePlace). z.net.0 == net.0) p.gates i.of = in_filter (λ (z : GatePlace). z.net.0 == net.0) p.gates i.of i.listed in
      omega (arith, gate_low names pins p s i.of ((is.gates i.of).0 k.listed), number i.of.net net ((net_decides i.of.net net).0 k.passes))
]
