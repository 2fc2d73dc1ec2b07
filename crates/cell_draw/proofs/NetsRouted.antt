-- What the wiring gives of nets without a trunk: they have one place.
use Rattle.std.proofs.Common.{ℕ, ◌≡◌, ◌≢◌, ◌+◌, ◌≤◌, ◌==◌, List, [], ◌∷◌, Option, Some, None, inl, inr, refl, sym, ap, subst, ◌∙◌, arith, filter, find, length, map, option_map, Contains}
use Rattle.std.proofs.lemmas.Bool.{cases_lt}
use Rattle.std.proofs.lemmas.List.{length-append, length-map}
use Rattle.cell_num.specs.declared.net.NetNo.{NetNo}
use Rattle.cell_num.specs.declared.net.Pins.{Pins}
use Rattle.cell_num.specs.Pins.{IsRail}
use Rattle.cell_num.proofs.In.{Image, in_map}
use Rattle.cell_num.proofs.Lists.{contains_none, contains_one}
use Rattle.cell_num.proofs.Pairs.{some_from_any}
use Rattle.row_model.proofs.Decide.{net_decides}
use Rattle.row_place.specs.declared.placement.NodePlace.{NodePlace}
use Rattle.row_place.specs.declared.placement.GatePlace.{GatePlace}
use Rattle.row_place.specs.declared.placement.Placement.{Placement}
use Rattle.row_place.specs.Trunks.{lines_of}
use Rattle.channel_route.specs.declared.routing.Trunk.{Trunk}
use Rattle.channel_route.specs.declared.routing.Routing.{Routing}
use Rattle.channel_route.specs.Wiring.{IsHeldAt, IsWiring}
use Rattle.box_geom.proofs.Filters.{contains_filter}
use Rattle.cell_draw.specs.declared.layout.Frame.{Frame}
use Rattle.cell_draw.specs.declared.layout.Bar.{Bar}
use Rattle.cell_draw.specs.Frame.{track_y}
use Rattle.cell_draw.specs.Layouts.{trunk_of, holds, far, gate_reach, bar_of}
use Rattle.cell_draw.proofs.BridgeFrom.{TrunkFrom, trunk_from}
use Rattle.cell_draw.proofs.BridgeTracks.{has_trunk, held_at, node_in_lines, gate_in_lines}
use Rattle.cell_draw.proofs.Found.{none_found}
use Rattle.cell_draw.proofs.Wirings.{it_holds, none_far}

-- a short list has one item
only_item : {X : Type 0} (xs : List X) (a b : X) → length xs ≤ 1 → Contains xs a → Contains xs b → a ≡ b
only_item [] a b short ca cb = absurd (contains_none a ca)
only_item (x ∷ []) a b short ca cb = sym (contains_one x a ca) ∙ contains_one x b cb
only_item (x ∷ y ∷ zs) a b short ca cb = absurd (omega (arith, short))

some_item : {X : Type 0} (xs : List X) (a : X) → Contains xs a → 1 ≤ length xs
some_item [] a c = absurd (contains_none a c)
some_item (x ∷ xs) a c = omega arith

abbrev nodes_on : Placement → NetNo → List NodePlace
nodes_on p net = filter (λ (z : NodePlace). z.net.0 == net.0) p.nodes

abbrev gates_at : Placement → NetNo → List GatePlace
gates_at p net = filter (λ (z : GatePlace). z.net.0 == net.0) p.gates

pub places : (p : Placement) (net : NetNo) → length (lines_of p net) ≡ length (nodes_on p net) + length (gates_at p net)
places p net =
    length-append (map (λ (z : NodePlace). z.line) (nodes_on p net)) (map (λ (z : GatePlace). z.line) (gates_at p net))
    ∙ (ap (λ k. k + length (map (λ (z : GatePlace). z.line) (gates_at p net))) (length-map (nodes_on p net) (λ (z : NodePlace). z.line)) ∙ ap (λ k. length (nodes_on p net) + k) (length-map (gates_at p net) (λ (z : GatePlace). z.line)))

-- a net, no rail, that has no trunk
pub record IsBare (pins : Pins) (r : Routing) (net : NetNo) : Type 0 where
  pub signal : IsRail pins net → ⊥
  pub bare : trunk_of r.trunks net ≡ None

no_trunk : (r : Routing) (pins : Pins) (net : NetNo) → IsBare pins r net → (t : Trunk) → Contains r.trunks t → t.net ≢ net
no_trunk r pins net b t there e = none_found (λ (u : Trunk). u.net.0 == net.0) r.trunks t there ((net_decides t.net net).1 e) b.bare

one_line : (p : Placement) (pins : Pins) (r : Routing) → IsWiring p pins r → (net : NetNo) → IsBare pins r net → length (lines_of p net) ≤ 1
one_line p pins r wiring net b = elim (cases_lt 1 (length (lines_of p net))) [
  | inl more ↦
      let t = some_from_any (λ (t : Trunk). t.net ≡ net) r.trunks ((wiring.nets net).0 (b.signal, inl (omega (arith, more)))) in
      absurd (no_trunk r pins net b t.it t.there t.holds)
  | inr few ↦ few
]

on_net : (p : Placement) (net : NetNo) (node : NodePlace) → Contains p.nodes node → node.net ≡ net → Contains (nodes_on p net) node
on_net p net node there e = contains_filter (λ (z : NodePlace). z.net.0 == net.0) p.nodes node there ((net_decides node.net net).1 e)

gate_on_net : (p : Placement) (net : NetNo) (gate : GatePlace) → Contains p.gates gate → gate.net ≡ net → Contains (gates_at p net) gate
gate_on_net p net gate there e = contains_filter (λ (z : GatePlace). z.net.0 == net.0) p.gates gate there ((net_decides gate.net net).1 e)

pub one_node_alone : (p : Placement) (pins : Pins) (r : Routing) → IsWiring p pins r → (a b : NodePlace) → Contains p.nodes a → Contains p.nodes b → IsBare pins r a.net → b.net ≡ a.net → b ≡ a
one_node_alone p pins r wiring a b la lb bare e = only_item (nodes_on p a.net) b a (omega (arith, places p a.net, one_line p pins r wiring a.net bare)) (on_net p a.net b lb e) (on_net p a.net a la refl)

pub one_gate_alone : (p : Placement) (pins : Pins) (r : Routing) → IsWiring p pins r → (a b : GatePlace) → Contains p.gates a → Contains p.gates b → IsBare pins r a.net → b.net ≡ a.net → b ≡ a
one_gate_alone p pins r wiring a b la lb bare e = only_item (gates_at p a.net) b a (omega (arith, places p a.net, one_line p pins r wiring a.net bare)) (gate_on_net p a.net b lb e) (gate_on_net p a.net a la refl)

pub node_or_gate : (p : Placement) (pins : Pins) (r : Routing) → IsWiring p pins r → (net : NetNo) (a : NodePlace) (b : GatePlace) → Contains p.nodes a → Contains p.gates b → IsBare pins r net → a.net ≡ net → b.net ≡ net → ⊥
node_or_gate p pins r wiring net a b la lb bare ea eb = omega (arith, places p net, one_line p pins r wiring net bare, some_item (nodes_on p net) a (on_net p net a la ea), some_item (gates_at p net) b (gate_on_net p net b lb eb))

pub no_bar : (p : Placement) (pins : Pins) (r : Routing) (f : Frame) (xs : List ℕ) (net : NetNo) → IsBare pins r net → (b : Bar) → Contains (map (bar_of f p.nodes r.trunks xs) r.trunks) b → b.net ≢ net
no_bar p pins r f xs net bare b there e =
    let i : Image (bar_of f p.nodes r.trunks xs) r.trunks b = in_map (bar_of f p.nodes r.trunks xs) r.trunks b there in
    no_trunk r pins net bare i.of i.listed (ap (λ (z : Bar). z.net) i.is ∙ e)

pub bar_signal : (p : Placement) (pins : Pins) (r : Routing) → IsWiring p pins r → (f : Frame) (xs : List ℕ) (b : Bar) → Contains (map (bar_of f p.nodes r.trunks xs) r.trunks) b → IsRail pins b.net → ⊥
bar_signal p pins r wiring f xs b there rail =
    let i : Image (bar_of f p.nodes r.trunks xs) r.trunks b = in_map (bar_of f p.nodes r.trunks xs) r.trunks b there in
    (has_trunk p pins r wiring i.of i.listed).0 (subst (IsRail pins) (sym (ap (λ (z : Bar). z.net) i.is)) rail)

-- where the metal2 of a place goes to no track its net has no trunk
pub bare_node : (p : Placement) (pins : Pins) (r : Routing) → IsWiring p pins r → (node : NodePlace) → Contains p.nodes node → far r.trunks node ≡ None → trunk_of r.trunks node.net ≡ None
bare_node p pins r wiring node there e = by (trunk_of r.trunks node.net) refl
  where
    by : (o : Option Trunk) → trunk_of r.trunks node.net ≡ o → trunk_of r.trunks node.net ≡ None
    by None is = is
    by (Some t) is =
        let from : TrunkFrom r.trunks node.net t = trunk_from r.trunks node.net t is in
        let held : IsHeldAt r.trunks node.net node.line = held_at p pins r wiring t node.net node.line from.listed from.of (node_in_lines p node node.net there refl) in
        absurd (none_far r.trunks node held.trunk held.there held.is held.holds e)

-- where the pad of a gate is on no trunk its net has none
pub bare_gate : (p : Placement) (pins : Pins) (r : Routing) → IsWiring p pins r → (f : Frame) (gate : GatePlace) → Contains p.gates gate → gate_reach f r.trunks gate ≡ None → trunk_of r.trunks gate.net ≡ None
bare_gate p pins r wiring f gate there e = by (find (holds gate.net gate.line) r.trunks) refl e
  where
    none : find (holds gate.net gate.line) r.trunks ≡ None → (o : Option Trunk) → trunk_of r.trunks gate.net ≡ o → trunk_of r.trunks gate.net ≡ None
    none lost None is = is
    none lost (Some t) is =
        let from : TrunkFrom r.trunks gate.net t = trunk_from r.trunks gate.net t is in
        let held : IsHeldAt r.trunks gate.net gate.line = held_at p pins r wiring t gate.net gate.line from.listed from.of (gate_in_lines p gate gate.net there refl) in
        absurd (none_found (holds gate.net gate.line) r.trunks held.trunk held.there (it_holds gate.net gate.line held.trunk held.is held.holds) lost)

    by : (o : Option Trunk) → find (holds gate.net gate.line) r.trunks ≡ o → option_map (λ (t : Trunk). track_y f t.track) o ≡ None → trunk_of r.trunks gate.net ≡ None
    by None lost g = none lost (trunk_of r.trunks gate.net) refl
    by (Some t) found g = absurd cc
