-- The lines of a wiring are lines of the placement.
use Rattle.std.proofs.Common.{ℕ, ◌*◌, ◌≤◌, ◌==◌, length, map, filter, ap, arith, All, Contains}
use Rattle.std.proofs.lemmas.List.Elements.{All-append, All-map, All-filter, All-contains}
use Rattle.cell_num.specs.declared.net.NetNo.{NetNo}
use Rattle.cell_num.specs.declared.net.Pins.{Pins}
use Rattle.row_place.specs.declared.placement.NodePlace.{NodePlace}
use Rattle.row_place.specs.declared.placement.GatePlace.{GatePlace}
use Rattle.row_place.specs.declared.placement.Placement.{Placement}
use Rattle.row_place.specs.Places.{IsPlacement}
use Rattle.row_place.specs.Trunks.{lines_of}
use Rattle.cell_num.proofs.Lists.{all_from_contains}
use Rattle.row_place.proofs.Bounds.{few_units, node_line, gate_line}
use Rattle.channel_route.specs.declared.routing.Trunk.{Trunk}
use Rattle.channel_route.specs.declared.routing.Routing.{Routing}
use Rattle.channel_route.specs.Wiring.{AreEnds, IsWiring}

pub few : (p : Placement) → IsPlacement p → length p.units ≤ 63
few p is = omega (arith, few_units p.row is.few, ap length is.units)

net_lines : (p : Placement) → IsPlacement p → (net : NetNo) → All (λ line. line ≤ 2 * length p.units) (lines_of p net)
net_lines p is net = All-append (λ line. line ≤ 2 * length p.units) (map (λ (node : NodePlace). node.line) (filter (λ (node : NodePlace). node.net.0 == net.0) p.nodes)) (map (λ (gate : GatePlace). gate.line) (filter (λ (gate : GatePlace). gate.net.0 == net.0) p.gates))
    (All-map (λ line. line ≤ 2 * length p.units) (λ (node : NodePlace). node.line) (filter (λ (node : NodePlace). node.net.0 == net.0) p.nodes) (All-filter (λ (node : NodePlace). node.net.0 == net.0) (λ (node : NodePlace). node.line ≤ 2 * length p.units) p.nodes (all_from_contains (λ (node : NodePlace). node.line ≤ 2 * length p.units) p.nodes (node_line p is))))
    (All-map (λ line. line ≤ 2 * length p.units) (λ (gate : GatePlace). gate.line) (filter (λ (gate : GatePlace). gate.net.0 == net.0) p.gates) (All-filter (λ (gate : GatePlace). gate.net.0 == net.0) (λ (gate : GatePlace). gate.line ≤ 2 * length p.units) p.gates (all_from_contains (λ (gate : GatePlace). gate.line ≤ 2 * length p.units) p.gates (λ gate there. omega (arith, gate_line p is gate there)))))

pub net_line : (p : Placement) → IsPlacement p → (net : NetNo) (line : ℕ) → Contains (lines_of p net) line → line ≤ 2 * length p.units
net_line p is net line there = All-contains (λ z. z ≤ 2 * length p.units) (lines_of p net) line (net_lines p is net) there

ends : (p : Placement) (pins : Pins) (r : Routing) → IsWiring p pins r → (t : Trunk) → Contains r.trunks t → AreEnds p t
ends p pins r wiring t there = All-contains (AreEnds p) r.trunks t wiring.ends there

pub wired_right : (p : Placement) (pins : Pins) (r : Routing) → IsPlacement p → IsWiring p pins r → (t : Trunk) → Contains r.trunks t → t.right ≤ 2 * length p.units
wired_right p pins r is wiring t there = let e : AreEnds p t = ends p pins r wiring t there in net_line p is t.net t.right e.right

pub wired_left : (p : Placement) (pins : Pins) (r : Routing) → IsPlacement p → IsWiring p pins r → (t : Trunk) → Contains r.trunks t → t.left ≤ 2 * length p.units
wired_left p pins r is wiring t there = let e : AreEnds p t = ends p pins r wiring t there in net_line p is t.net t.left e.left
