-- The layout of a routed row has the nets of its placement.
use Rattle.std.proofs.Common.{ℕ, ◌≡◌, ◌≢◌, ◌+◌, ◌*◌, Bool, true, false, List, Option, Some, None, inl, inr, ◌⊎◌, refl, sym, ap, subst, ◌∙◌, arith, Contains}
use Rattle.std.proofs.lemmas.List.Elements.{All-contains}
use Rattle.cell_num.specs.declared.net.NetNo.{NetNo}
use Rattle.cell_num.specs.declared.net.Pins.{Pins}
use Rattle.cell_num.specs.declared.finger.Row.{Row}
use Rattle.cell_num.specs.declared.finger.Finger.{Finger}
use Rattle.cell_num.specs.Pins.{IsRail, is_rail}
use Rattle.cell_num.proofs.Lists.{some_same, contains_get, contains_filter_map}
use Rattle.row_model.specs.declared.column.Placed.{Placed}
use Rattle.row_model.specs.declared.column.Column.{Column}
use Rattle.row_model.specs.Gaps.{left_net, right_net}
use Rattle.row_model.specs.Arrangement.{gate_in}
use Rattle.row_place.specs.declared.placement.NodePlace.{NodePlace}
use Rattle.row_place.specs.declared.placement.GatePlace.{GatePlace}
use Rattle.row_place.specs.declared.placement.Placement.{Placement}
use Rattle.row_place.specs.Places.{IsNode, IsPlacement}
use Rattle.row_place.specs.Steps.{gates_of}
use Rattle.row_place.specs.Units.{seats_of, unit_of}
use Rattle.row_place.proofs.Placed.{only_placement}
use Rattle.channel_route.specs.declared.routing.Routing.{Routing}
use Rattle.channel_route.specs.Wiring.{IsWiring}
use Rattle.row_compact.specs.Solution.{x_of}
use Rattle.row_compact.proofs.Decide.{rail_decides}
use Rattle.cell_draw.specs.declared.layout.Frame.{Frame}
use Rattle.cell_draw.specs.declared.layout.Strip.{Strip}
use Rattle.cell_draw.specs.declared.layout.Contact.{Contact}
use Rattle.cell_draw.specs.declared.layout.Gate.{Gate}
use Rattle.cell_draw.specs.declared.layout.Layout.{Layout}
use Rattle.cell_draw.specs.Frame.{track_y}
use Rattle.cell_draw.specs.Laid.{width_in}
use Rattle.cell_draw.specs.Layouts.{far, contact_with, contact_of, gates_on, laid_out}
use Rattle.cell_draw.specs.Sound.{IsSoundRow, AreLines}
use Rattle.cell_draw.proofs.BridgeFrom.{StripFrom, strip_from, ContactFrom, contact_from, GateFrom, gate_from, IsDrawn}
use Rattle.cell_draw.proofs.BridgeGates.{gate_spread}
use Rattle.cell_draw.proofs.BridgeRow.{p_finger, n_finger}
use Rattle.cell_draw.proofs.BridgeWhole.{lines_of_allowed}
use Rattle.cell_draw.proofs.NetsFacts.{End, left_end, right_end, end_x, HasContact, IsLone, IsLoneGate, HasStrip, IsNetted}
use Rattle.cell_draw.proofs.NetsPlaces.{net_at, net_at_node, gate_over, strip_gate, only_gate, gate_strip}
use Rattle.cell_draw.proofs.NetsBars.{signal_meets, joined}
use Rattle.cell_draw.proofs.NetsRouted.{IsBare, one_node_alone, one_gate_alone, node_or_gate, no_bar, bar_signal, bare_node, bare_gate}

-- ---- the node at an end of a finger
abbrev pub end_net : Placed → End → NetNo
end_net x left_end = left_net x
end_net x right_end = right_net x

-- a node place of the net at an end of a strip
pub record EndNode (p : Placement) (xs : List ℕ) (s : Strip) (e : End) (net : NetNo) : Type 0 where
  pub node : NodePlace
  pub there : Contains p.nodes node
  pub row : node.row ≡ s.row
  pub x : x_of xs node.line ≡ end_x e s
  pub of : node.net ≡ net

abbrev node_with : Row → ℕ → NetNo → NodePlace
node_with row line net = record { row = row; line = line; net = net }

pub end_node : (p : Placement) (xs : List ℕ) → IsPlacement p → (s : Strip) (e : End) (b : StripFrom p.row xs s) → EndNode p xs s e (end_net b.finger e)
end_node p xs is s left_end b =
    let n : NodePlace = node_with s.row (2 * unit_of p.row b.at) (left_net b.finger) in
    let node : IsNode p.row n = record { at = b.at; column = b.column; finger = b.finger; stands = b.stands; filled = b.filled; end = inl (refl, refl) } in
    record { node = n; there = (is.nodes n).1 node; row = refl; x = sym b.left; of = refl }
end_node p xs is s right_end b =
    let n : NodePlace = node_with s.row (2 * unit_of p.row b.at + 2) (right_net b.finger) in
    let node : IsNode p.row n = record { at = b.at; column = b.column; finger = b.finger; stands = b.stands; filled = b.filled; end = inr (refl, refl) } in
    record { node = n; there = (is.nodes n).1 node; row = refl; x = sym b.right; of = refl }

-- the net at an end of a strip is that of the node there
pub net_at_end : (p : Placement) (xs : List ℕ) → IsPlacement p → AreLines p xs → (s : Strip) (e : End) (net : NetNo) (n : EndNode p xs s e net) → net_at p.nodes xs s.row (end_x e s) ≡ n.node.net
net_at_end p xs is lines s e net n = ap (λ z. net_at p.nodes xs z (end_x e s)) (sym n.row) ∙ (ap (λ z. net_at p.nodes xs n.node.row z) (sym n.x) ∙ net_at_node p xs is lines n.node n.there)

-- ---- gates are signals
gate_finger : (names : List (List ℕ)) (pins : Pins) (row : List Column) → IsSoundRow names pins row → (c : Column) (net : NetNo) → Contains row c → gate_in c.p c.n ≡ Some net → IsRail pins net → ⊥
gate_finger names pins row s c net there e rail = by c.p c.n refl refl e
  where
    by : (p n : Option Placed) → c.p ≡ p → c.n ≡ n → gate_in p n ≡ Some net → ⊥
    by (Some x) n ep en h = All-contains (λ (f : Finger). IsRail pins f.gate → ⊥) s.fingers.p x.finger s.sound.p_gates (p_finger names pins row s c x there ep) (subst (IsRail pins) (sym (some_same x.finger.gate net h)) rail)
    by None (Some x) ep en h = All-contains (λ (f : Finger). IsRail pins f.gate → ⊥) s.fingers.n x.finger s.sound.n_gates (n_finger names pins row s c x there en) (subst (IsRail pins) (sym (some_same x.finger.gate net h)) rail)
    by None None ep en h = absurd cc

abbrev layout : (pins : Pins) (p : Placement) (r : Routing) (xs : List ℕ) (f : Frame) (nets : ℕ) → Layout
layout pins p r xs f nets = laid_out f nets pins p r.trunks xs

-- the place of a gate is one of the placement
gate_placed : (p : Placement) → IsPlacement p → (gate : GatePlace) → Contains (gates_of (seats_of p.row)) gate → Contains p.gates gate
gate_placed p is gate there = subst (λ zs. Contains zs gate) (sym (ap (λ (z : Placement). z.gates) (only_placement p is))) there

-- a node place has a contact, or its net no trunk
contact_or_bare : (pins : Pins) (p : Placement) (r : Routing) → IsWiring p pins r → (xs : List ℕ) (f : Frame) (nets : ℕ) (node : NodePlace) → Contains p.nodes node → HasContact (layout pins p r xs f nets) node.row (x_of xs node.line) ⊎ IsBare pins r node.net
contact_or_bare pins p r wiring xs f nets node there = by (is_rail pins node.net) refl
  where
    contacted : (reach : Option ℕ) → contact_of f pins r.trunks xs node ≡ Some (contact_with xs node reach) → HasContact (layout pins p r xs f nets) node.row (x_of xs node.line)
    contacted reach gives = record { contact = contact_with xs node reach; listed = contains_filter_map (contact_of f pins r.trunks xs) p.nodes node (contact_with xs node reach) there gives; in_row = refl; at_x = refl }

    signal : is_rail pins node.net ≡ false → (o : Option ℕ) → far r.trunks node ≡ o → HasContact (layout pins p r xs f nets) node.row (x_of xs node.line) ⊎ IsBare pins r node.net
    signal other None e = inr (record { signal = λ rail. (let wrong : true ≡ false = sym ((rail_decides pins node.net).1 rail) ∙ other in cc); bare = bare_node p pins r wiring node there e })
    signal other (Some k) e = inl (contacted (Some (track_y f k)) (rw other (rw e refl)))

    by : (b : Bool) → is_rail pins node.net ≡ b → HasContact (layout pins p r xs f nets) node.row (x_of xs node.line) ⊎ IsBare pins r node.net
    by true e = inl (contacted None (rw e refl))
    by false e = signal e (far r.trunks node) refl

-- the nets of a layout are those of the nodes of its placement
pub record HasNets (pins : Pins) (p : Placement) (r : Routing) (xs : List ℕ) (f : Frame) (nets : ℕ) : Type 0 where
  pub netted : IsNetted (layout pins p r xs f nets)
  pub at_node : (node : NodePlace) → Contains p.nodes node → netted.nets node.row (x_of xs node.line) ≡ node.net
  pub at_end : (s : Strip) (e : End) → Contains (layout pins p r xs f nets).strips s → (b : StripFrom p.row xs s) → netted.nets s.row (end_x e s) ≡ end_net b.finger e

-- a routed row has its nets
pub has_nets : (names : List (List ℕ)) (pins : Pins) (p : Placement) (r : Routing) (xs : List ℕ) (f : Frame) (nets : ℕ) → IsDrawn names pins p r xs f → pins.vdd ≢ pins.gnd → HasNets pins p r xs f nets
has_nets names pins p r xs f nets d differ =
    let all : IsNetted (layout pins p r xs f nets) = record {
      nets = net_at p.nodes xs;
      over = gate_over (gates_on f r.trunks xs (seats_of p.row));
      rails = λ e. differ (sym e);
      gated = λ s there. strip_gate p xs f r.trunks d.placement lines s (strip_from p.row xs s there);
      one_gate = λ s g there listed o. only_gate p xs f r.trunks d.placement lines s g (strip_from p.row xs s there) listed o;
      fingered = fingered;
      contacts = contacts;
      signals = λ c y there e. signal_meets p pins r xs f nets c y (contact_from f pins r.trunks xs p.nodes c there) e;
      bars = λ b there. (λ e. bar_signal p pins r d.wiring f xs b there (inr e), λ e. bar_signal p pins r d.wiring f xs b there (inl e));
      gates = λ g there. (λ e. gate_signal g there (inr e), λ e. gate_signal g there (inl e));
      joined = λ a b la lb e. joined p pins r xs (record { placed = d.placement; wiring = d.wiring; allowed = d.allowed }) f nets a b la lb e;
      ends = ends;
      lone = lone;
    } in
    record {
      netted = all;
      at_node = λ node there. net_at_node p xs is lines node there;
      at_end = λ s e there b. let n = end_node p xs is s e b in net_at_end p xs is lines s e (end_net b.finger e) n ∙ n.of;
    }
  where
    lines : AreLines p xs
    lines = lines_of_allowed p pins r xs d.allowed

    is : IsPlacement p
    is = d.placement

    fingered : (g : Gate) (row : Row) (width : ℕ) → Contains (layout pins p r xs f nets).gates g → width_in row g ≡ Some width → HasStrip (layout pins p r xs f nets) g row width
    fingered g row width there e =
        let s = gate_strip p xs f r.trunks is lines g row width (gate_from p.row f r.trunks xs g there) e in
        record { strip = s.0; listed = s.1; in_row = s.2; as_wide = s.3; over = s.4 }

    contacts : (c : Contact) → Contains (layout pins p r xs f nets).contacts c → c.net ≡ net_at p.nodes xs c.row c.x
    contacts c there =
        let a : ContactFrom f pins r.trunks xs p.nodes c = contact_from f pins r.trunks xs p.nodes c there in
        a.net ∙ (sym (net_at_node p xs is lines a.node a.there) ∙ (ap (λ z. net_at p.nodes xs z (x_of xs a.node.line)) (sym a.row) ∙ ap (λ z. net_at p.nodes xs c.row z) (sym a.x)))

    gate_signal : (g : Gate) → Contains (layout pins p r xs f nets).gates g → IsRail pins g.net → ⊥
    gate_signal g there rail =
        let a : GateFrom p.row f r.trunks xs g = gate_from p.row f r.trunks xs g there in
        gate_finger names pins p.row d.row a.seat.column a.place.net (contains_get p.row a.at a.seat.column a.stands) a.gate (subst (IsRail pins) a.net rail)

    gate_of_net : (g : Gate) → Contains (layout pins p r xs f nets).gates g → (a : GateFrom p.row f r.trunks xs g) → Contains p.gates a.place
    gate_of_net g there a = gate_placed p is a.place a.listed

    end_of : (s : Strip) (e : End) (there : Contains (layout pins p r xs f nets).strips s) → EndNode p xs s e (end_net (strip_from p.row xs s there).finger e)
    end_of s e there = end_node p xs is s e (strip_from p.row xs s there)

    net_of_end : (s : Strip) (e : End) (there : Contains (layout pins p r xs f nets).strips s) → net_at p.nodes xs s.row (end_x e s) ≡ (end_of s e there).node.net
    net_of_end s e there = net_at_end p xs is lines s e (end_net (strip_from p.row xs s there).finger e) (end_of s e there)

    lone_end : (s : Strip) (e : End) (there : Contains (layout pins p r xs f nets).strips s) → IsBare pins r (end_of s e there).node.net → IsLone (layout pins p r xs f nets) (net_at p.nodes xs) s.row (end_x e s)
    lone_end s e there bare =
        let n = end_of s e there in
        let q : net_at p.nodes xs s.row (end_x e s) ≡ n.node.net = net_of_end s e there in
        record {
          no_gnd = λ h. bare.signal (inr (sym q ∙ h));
          no_vdd = λ h. bare.signal (inl (sym q ∙ h));
          no_bar = λ b listed h. no_bar p pins r f xs n.node.net bare b listed (h ∙ q);
          no_gate = λ g listed h.
              let a : GateFrom p.row f r.trunks xs g = gate_from p.row f r.trunks xs g listed in
              node_or_gate p pins r d.wiring n.node.net n.node a.place n.there (gate_of_net g listed a) bare refl (sym a.net ∙ (h ∙ q));
          here = λ t k listed h.
              let m = end_of t k listed in
              let same : m.node ≡ n.node = one_node_alone p pins r d.wiring n.node m.node n.there m.there bare (sym (net_of_end t k listed) ∙ (h ∙ q)) in
              (sym m.row ∙ (ap (λ (z : NodePlace). z.row) same ∙ n.row), sym m.x ∙ (ap (λ (z : NodePlace). x_of xs z.line) same ∙ n.x));
        }

    ends : (s : Strip) (e : End) → Contains (layout pins p r xs f nets).strips s → HasContact (layout pins p r xs f nets) s.row (end_x e s) ⊎ IsLone (layout pins p r xs f nets) (net_at p.nodes xs) s.row (end_x e s)
    ends s e there =
        let n = end_of s e there in
        elim (contact_or_bare pins p r d.wiring xs f nets n.node n.there) [
          | inl c ↦ inl (record { contact = c.contact; listed = c.listed; in_row = c.in_row ∙ n.row; at_x = c.at_x ∙ n.x })
          | inr bare ↦ inr (lone_end s e there bare)
        ]

    lone : (g : Gate) → Contains (layout pins p r xs f nets).gates g → g.track ≡ None → IsLoneGate (layout pins p r xs f nets) (net_at p.nodes xs) g
    lone g there e =
        let a : GateFrom p.row f r.trunks xs g = gate_from p.row f r.trunks xs g there in
        let bare : IsBare pins r a.place.net = record { signal = λ rail. gate_signal g there (subst (IsRail pins) (sym a.net) rail); bare = bare_gate p pins r d.wiring f a.place (gate_of_net g there a) (sym a.track ∙ e) } in
        record {
          no_bar = λ b listed h. no_bar p pins r f xs a.place.net bare b listed (h ∙ a.net);
          here = λ h listed k.
              let b : GateFrom p.row f r.trunks xs h = gate_from p.row f r.trunks xs h listed in
              let same : b.place ≡ a.place = one_gate_alone p pins r d.wiring a.place b.place (gate_of_net g there a) (gate_of_net h listed b) bare (sym b.net ∙ (k ∙ a.net)) in
              let x : h.x ≡ g.x = b.x ∙ (ap (λ n. x_of xs n) (sym b.line ∙ (ap (λ (z : GatePlace). z.line) same ∙ a.line)) ∙ sym a.x) in
              elim (gate_spread p xs f r.trunks is lines h g b a) [
                | inl is_one ↦ is_one
                | inr (inl far) ↦ absurd (omega (arith, far, x))
                | inr (inr far) ↦ absurd (omega (arith, far, x))
              ];
          no_end = λ s k listed h.
              let n = end_of s k listed in
              node_or_gate p pins r d.wiring a.place.net n.node a.place n.there (gate_of_net g there a) bare (sym (net_of_end s k listed) ∙ (h ∙ a.net)) refl;
        }
