-- Each piece of a routed row is of a named net.
use Rattle.std.proofs.Common.{ℕ, ◌<◌, List, sym, ap, subst, arith, Contains, length}
use Rattle.cell_num.specs.declared.net.Pins.{Pins}
use Rattle.cell_num.specs.Pins.{ArePins}
use Rattle.cell_num.proofs.In.{Image, in_map}
use Rattle.row_place.specs.declared.placement.Placement.{Placement}
use Rattle.row_place.proofs.Placed.{only_placement}
use Rattle.channel_route.specs.declared.routing.Routing.{Routing}
use Rattle.cell_draw.specs.declared.layout.Frame.{Frame}
use Rattle.cell_draw.specs.declared.layout.Contact.{Contact}
use Rattle.cell_draw.specs.declared.layout.Gate.{Gate}
use Rattle.cell_draw.specs.declared.layout.Bar.{Bar}
use Rattle.cell_draw.specs.Layouts.{bar_of as bar_from}
use Rattle.cell_draw.proofs.BridgeFrom.{ContactFrom, contact_from, StripFrom, strip_from, GateFrom, gate_from}
use Rattle.cell_draw.proofs.BridgeTracks.{ends_of}
use Rattle.cell_draw.proofs.LabelsPlaced.{IsWired, layout}
use Rattle.cell_draw.proofs.NetsBridge.{EndNode, end_node, end_net}
use Rattle.cell_draw.proofs.NetsFacts.{end_x}
use Rattle.cell_draw.proofs.NetsWires.{Wire, metal, branch, gate, half, pad, net_of, IsWire}
use Rattle.cell_draw.proofs.RulesMetal1.{gnd, vdd, strap_of, bar_of}
use Rattle.cell_draw.proofs.RulesPoly.{strip_of, pad_of}
use Rattle.cell_draw.proofs.NetsNamed.{number, node_low, gate_low, place_low}

contact_low : (names : List (List ℕ)) (pins : Pins) (p : Placement) (r : Routing) (xs : List ℕ) (f : Frame) (w : IsWired names pins p r xs f) → (c : Contact) → Contains (layout names pins p r xs f).contacts c → c.net.0 < length names
contact_low names pins p r xs f w c there =
    let a : ContactFrom f pins r.trunks xs p.nodes c = contact_from f pins r.trunks xs p.nodes c there in
    omega (arith, number c.net a.node.net a.net, node_low names pins p w.drawn.row a.node ((w.drawn.placement.nodes a.node).0 a.there))

piece_low : (names : List (List ℕ)) (pins : Pins) (p : Placement) (r : Routing) (xs : List ℕ) (f : Frame) (w : IsWired names pins p r xs f) → (g : Gate) → Contains (layout names pins p r xs f).gates g → g.net.0 < length names
piece_low names pins p r xs f w g there =
    let a : GateFrom p.row f r.trunks xs g = gate_from p.row f r.trunks xs g there in
    let listed : Contains p.gates a.place = subst (λ zs. Contains zs a.place) (sym (ap (λ (z : Placement). z.gates) (only_placement p w.drawn.placement))) a.listed in
    omega (arith, number g.net a.place.net a.net, gate_low names pins p w.drawn.row a.place ((w.drawn.placement.gates a.place).0 listed))

bar_low : (names : List (List ℕ)) (pins : Pins) (p : Placement) (r : Routing) (xs : List ℕ) (f : Frame) (w : IsWired names pins p r xs f) → (b : Bar) → Contains (layout names pins p r xs f).bars b → b.net.0 < length names
bar_low names pins p r xs f w b there =
    let i : Image (bar_from f p.nodes r.trunks xs) r.trunks b = in_map (bar_from f p.nodes r.trunks xs) r.trunks b there in
    let ends = ends_of p pins r w.drawn.wiring i.of i.listed in
    omega (arith, number i.of.net b.net (ap (λ (z : Bar). z.net) i.is), place_low names pins p w.drawn.placement w.drawn.row i.of.net i.of.left ends.left)

pub wire_low : (names : List (List ℕ)) (pins : Pins) (p : Placement) (r : Routing) (xs : List ℕ) (f : Frame) (w : IsWired names pins p r xs f) → ArePins (length names) pins → (a : Wire) → IsWire (layout names pins p r xs f) a → (net_of (layout names pins p r xs f) w.has.netted a).0 < length names
wire_low names pins p r xs f w are (metal gnd) h = omega (arith, are.gnd, are.named)
wire_low names pins p r xs f w are (metal vdd) h = omega (arith, are.vdd, are.named)
wire_low names pins p r xs f w are (metal (strap_of c)) h = contact_low names pins p r xs f w c h
wire_low names pins p r xs f w are (metal (bar_of b)) h = bar_low names pins p r xs f w b h
wire_low names pins p r xs f w are (branch s) h = contact_low names pins p r xs f w s.contact h.listed
wire_low names pins p r xs f w are (gate (strip_of g)) h = piece_low names pins p r xs f w g h
wire_low names pins p r xs f w are (gate (pad_of g t)) h = piece_low names pins p r xs f w g h.listed
wire_low names pins p r xs f w are (pad c) h = contact_low names pins p r xs f w c h
wire_low names pins p r xs f w are (half s e) h =
    let b : StripFrom p.row xs s = strip_from p.row xs s h in
    let n : EndNode p xs s e (end_net b.finger e) = end_node p xs w.drawn.placement s e b in
    omega (arith, number n.node.net (end_net b.finger e) n.of, number (w.has.netted.nets s.row (end_x e s)) (end_net b.finger e) (w.has.at_end s e h b), node_low names pins p w.drawn.row n.node ((w.drawn.placement.nodes n.node).0 n.there))
