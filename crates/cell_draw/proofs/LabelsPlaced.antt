-- The label of each net of a routed row belongs to a piece of that net.
use Rattle.std.proofs.Common.{ℕ, ◌≡◌, ◌+◌, ◌≤◌, ◌==◌, pos, ◌-ℤ◌, List, [], Option, Some, None, inl, inr, refl, sym, ap, subst, ◌∙◌, arith, Contains, find, length, get_or}
use Rattle.std.proofs.lemmas.Int.{ints}
use Rattle.std.proofs.lemmas.Bool.{eq-eqb, eqb-true, and_parts, and_from}
use Rattle.cell_num.specs.declared.net.NetNo.{NetNo}
use Rattle.cell_num.specs.declared.net.Pins.{Pins}
use Rattle.cell_num.specs.declared.finger.Row.{Row}
use Rattle.cell_num.specs.declared.finger.Row.TheVariants.{P, N}
use Rattle.cell_num.specs.Tests.{same_row}
use Rattle.cell_num.proofs.Decide.{row_decides}
use Rattle.cell_num.proofs.In.{contains_map}
use Rattle.cell_num.proofs.Lists.{all_from_contains}
use Rattle.row_place.specs.declared.placement.NodePlace.{NodePlace}
use Rattle.row_place.specs.declared.placement.GatePlace.{GatePlace}
use Rattle.row_model.proofs.Decide.{net_decides}
use Rattle.row_place.specs.declared.placement.Placement.{Placement}
use Rattle.row_place.specs.Places.{IsNode}
use Rattle.row_place.specs.Units.{seats_of, unit_of}
use Rattle.channel_route.specs.declared.routing.Trunk.{Trunk}
use Rattle.channel_route.specs.declared.routing.Routing.{Routing}
use Rattle.row_compact.specs.Solution.{x_of}
use Rattle.box_geom.specs.Rectangle.{Holds}
use Rattle.box_geom.specs.declared.layer.Layer.TheVariants.{Active, Poly, Metal1}
use Rattle.cell_num.specs.Pins.{IsRail}
use Rattle.cell_draw.specs.declared.layout.Frame.{Frame}
use Rattle.cell_draw.specs.declared.layout.Strip.{Strip}
use Rattle.cell_draw.specs.declared.layout.Contact.{Contact}
use Rattle.cell_draw.specs.declared.layout.Gate.{Gate}
use Rattle.cell_draw.specs.declared.layout.Bar.{Bar}
use Rattle.cell_draw.specs.declared.layout.Tag.{Tag}
use Rattle.cell_draw.specs.declared.layout.Layout.{Layout}
use Rattle.cell_draw.specs.Shapes.{gnd_rail, vdd_rail, shapes_of}
use Rattle.scmos_rules.specs.Layout.{On}
use Rattle.cell_draw.specs.Drawings.{label_of}
use Rattle.cell_draw.specs.Frame.{track_y}
use Rattle.cell_draw.specs.Laid.{IsFrame, HasFinger, rail_in, IsLaid}
use Rattle.cell_draw.specs.Layouts.{gate_y, gate_reach, bar_of as bar_from, trunk_of, gates_on, laid_out}
use Rattle.cell_draw.proofs.BridgeFrom.{IsDrawn, GateFrom, gate_from, trunk_from, PadFrom, pad_from}
use Rattle.cell_draw.proofs.Found.{found_all, found_is, none_found}
use Rattle.cell_draw.proofs.LabelPieces.{LabelOn, direct, beside, on_diffusion, node_y, left_corner, right_corner, active_at, NoneBegins, end_bare, begins}
use Rattle.cell_draw.proofs.NetsBridge.{HasNets}
use Rattle.cell_draw.proofs.NetsFacts.{left_end, right_end, IsOver, Reaches, IsNetted}
use Rattle.cell_draw.proofs.NetsPlaces.{strip_with, strip_listed}
use Rattle.cell_draw.proofs.NetsRouted.{IsBare, no_bar}
use Rattle.cell_draw.proofs.NetsWires.{metal, gate, half, half_in}
use Rattle.cell_draw.proofs.RulesActive.{strip_is}
use Rattle.cell_draw.proofs.RulesMetal1.{gnd, vdd, bar_of}
use Rattle.cell_draw.proofs.RulesPoly.{strip_of, strip_at, gate_is}
use Rattle.cell_draw.proofs.Tags.{TagFrom, on_gnd, on_vdd, on_trunk, at_node, at_gate}

-- a routed row that is laid and has its nets
pub record IsWired (names : List (List ℕ)) (pins : Pins) (p : Placement) (r : Routing) (xs : List ℕ) (f : Frame) : Type 0 where
  pub drawn : IsDrawn names pins p r xs f
  pub laid : IsLaid (laid_out f (length names) pins p r.trunks xs)
  pub has : HasNets pins p r xs f (length names)

abbrev pub layout : (names : List (List ℕ)) (pins : Pins) (p : Placement) (r : Routing) (xs : List ℕ) (f : Frame) → Layout
layout names pins p r xs f = laid_out f (length names) pins p r.trunks xs

-- ---- rails
gnd_holds : (f : Frame) (k : ℕ) → IsFrame f k → Holds (gnd_rail f).rect (pos 8) (pos 8)
gnd_holds f k fr = omega (arith, ints)

vdd_holds : (f : Frame) (k : ℕ) → IsFrame f k → Holds (vdd_rail f).rect (pos 8) (pos (f.p_edge + f.p_height + 16))
vdd_holds f k fr = omega (arith, ints)

-- ---- a gate without a trunk
gate_holds : (f : Frame) (k : ℕ) → IsFrame f k → (x : ℕ) (n p track : Option ℕ) → HasFinger n p → track ≡ None → Holds (strip_at f x n p track).rect (pos x) (pos (gate_y f n))
gate_holds f k fr x n p (Some t) has e = absurd cc
gate_holds f k fr x None None None has e = absurd has
gate_holds f k fr x (Some u) None None has e = omega (arith, ints)
gate_holds f k fr x None (Some v) None has e = omega (arith, ints)
gate_holds f k fr x (Some u) (Some v) None has e = omega (arith, ints)

-- ---- a node without a contact
node_free : (names : List (List ℕ)) (pins : Pins) (p : Placement) (r : Routing) (xs : List ℕ) (f : Frame) → IsWired names pins p r xs f → (node : NodePlace) → Contains p.nodes node → IsBare pins r node.net → (c : Contact) → Contains (layout names pins p r xs f).contacts c → c.row ≡ node.row → c.x ≡ x_of xs node.line → ⊥
node_free names pins p r xs f w node there bare c listed row x = by c.reach refl
  where
    n : IsNetted (layout names pins p r xs f)
    n = w.has.netted

    net : c.net ≡ node.net
    net = w.has.netted.contacts c listed ∙ (ap (λ z. w.has.netted.nets z c.x) row ∙ (ap (λ z. w.has.netted.nets node.row z) x ∙ w.has.at_node node there))

    rail : (side : Row) → c.net ≡ rail_in side (layout names pins p r xs f) → ⊥
    rail N e = bare.signal (inr (sym net ∙ e))
    rail P e = bare.signal (inl (sym net ∙ e))

    by : (o : Option ℕ) → c.reach ≡ o → ⊥
    by None e = rail c.row (w.laid.rails c listed e)
    by (Some y) e =
        let m : Reaches (layout names pins p r xs f) c y = w.has.netted.signals c y listed e in
        no_bar p pins r f xs node.net bare m.bar m.listed (m.net ∙ net)

node_label : (names : List (List ℕ)) (pins : Pins) (p : Placement) (r : Routing) (xs : List ℕ) (f : Frame) (w : IsWired names pins p r xs f) → (node : NodePlace) → Contains p.nodes node → IsBare pins r node.net → (name : List ℕ) → LabelOn (layout names pins p r xs f) w.has.netted (record { layer = Active; x = pos (x_of xs node.line); y = pos (node_y f node.row); name = name }) node.net
node_label names pins p r xs f w node there bare name = by ((w.drawn.placement.nodes node).0 there)
  where
    -- a strip of the row that begins at the line
    from_left : (s : Strip) → Contains (layout names pins p r xs f).strips s → s.row ≡ node.row → s.left ≡ x_of xs node.line → LabelOn (layout names pins p r xs f) w.has.netted (record { layer = Active; x = pos (x_of xs node.line); y = pos (node_y f node.row); name = name }) node.net
    from_left s listed row x =
        let o : IsOver s (w.has.netted.over s) = (w.has.netted.gated s listed).1 in
        let net : w.has.netted.nets s.row s.left ≡ node.net = ap (λ z. w.has.netted.nets z s.left) row ∙ (ap (λ z. w.has.netted.nets node.row z) x ∙ w.has.at_node node there) in
        let holds : Holds (half_in f s.row s (w.has.netted.over s).x left_end) (pos (x_of xs node.line)) (pos (node_y f s.row)) = left_corner f r.tracks w.drawn.frame s.row s (w.has.netted.over s).x (x_of xs node.line) o.left (strip_is (layout names pins p r xs f) w.laid s listed).least x in
        direct (layout names pins p r xs f) w.laid w.has.netted (half s left_end) Active (x_of xs node.line) (node_y f node.row) name node.net listed net (on_diffusion s.row) (subst (λ z. Holds (half_in f s.row s (w.has.netted.over s).x left_end) (pos (x_of xs node.line)) (pos (node_y f z))) row holds)

    -- the strip of the row that ends there, where none begins
    from_right : (s : Strip) → Contains (layout names pins p r xs f).strips s → s.row ≡ node.row → s.right ≡ x_of xs node.line → NoneBegins (layout names pins p r xs f) s.row (x_of xs node.line) → LabelOn (layout names pins p r xs f) w.has.netted (record { layer = Active; x = pos (x_of xs node.line); y = pos (node_y f node.row); name = name }) node.net
    from_right s listed row x none =
        let o : IsOver s (w.has.netted.over s) = (w.has.netted.gated s listed).1 in
        let net : w.has.netted.nets s.row s.right ≡ node.net = ap (λ z. w.has.netted.nets z s.right) row ∙ (ap (λ z. w.has.netted.nets node.row z) x ∙ w.has.at_node node there) in
        let holds : Holds (half_in f s.row s (w.has.netted.over s).x right_end) (pos (x_of xs node.line) -ℤ pos 1) (pos (node_y f s.row)) = right_corner f r.tracks w.drawn.frame s.row s (w.has.netted.over s).x (x_of xs node.line) o.right (strip_is (layout names pins p r xs f) w.laid s listed).least x in
        beside (layout names pins p r xs f) w.laid w.has.netted (half s right_end) Active (x_of xs node.line) (node_y f node.row) name node.net listed net (on_diffusion s.row) (subst (λ z. Holds (half_in f s.row s (w.has.netted.over s).x right_end) (pos (x_of xs node.line) -ℤ pos 1) (pos (node_y f z))) row holds)
        (λ b c. end_bare (layout names pins p r xs f) w.laid s (x_of xs node.line) listed x none (λ d also same at. node_free names pins p r xs f w node there bare d also (same ∙ row) at) (subst (λ z. On Active (shapes_of (layout names pins p r xs f)) (pos (x_of xs node.line)) (pos (node_y f z))) (sym row) (active_at (layout names pins p r xs f) (pos (x_of xs node.line)) (pos (node_y f node.row)) b c)))

    searched : (s : Strip) → Contains (layout names pins p r xs f).strips s → s.row ≡ node.row → s.right ≡ x_of xs node.line → (o : Option Strip) → find (begins node.row (x_of xs node.line)) (layout names pins p r xs f).strips ≡ o → LabelOn (layout names pins p r xs f) w.has.netted (record { layer = Active; x = pos (x_of xs node.line); y = pos (node_y f node.row); name = name }) node.net
    searched s listed row x (Some t) e =
        let test = and_parts (same_row t.row node.row) (t.left == x_of xs node.line) (found_is (begins node.row (x_of xs node.line)) (layout names pins p r xs f).strips t e) in
        from_left t (found_all (λ z. Contains (layout names pins p r xs f).strips z) (begins node.row (x_of xs node.line)) (layout names pins p r xs f).strips t (all_from_contains (λ z. Contains (layout names pins p r xs f).strips z) (layout names pins p r xs f).strips (λ z c. c)) e) ((row_decides t.row node.row).0 test.0) (eqb-true t.left (x_of xs node.line) test.1)
    searched s listed row x None e = from_right s listed row x (λ t also same left. none_found (begins node.row (x_of xs node.line)) (layout names pins p r xs f).strips t also (and_from (same_row t.row node.row) (t.left == x_of xs node.line) ((row_decides t.row node.row).1 (same ∙ row)) (eq-eqb t.left (x_of xs node.line) left)) e)

    by : IsNode p.row node → LabelOn (layout names pins p r xs f) w.has.netted (record { layer = Active; x = pos (x_of xs node.line); y = pos (node_y f node.row); name = name }) node.net
    by is = elim is.end [
      | inl left ↦ from_left (strip_with xs (unit_of p.row is.at) node.row is.finger) (strip_listed p.row xs is.at is.column node.row is.finger is.stands is.filled) refl (ap (λ z. x_of xs z) (sym left.0))
      | inr right ↦ searched (strip_with xs (unit_of p.row is.at) node.row is.finger) (strip_listed p.row xs is.at is.column node.row is.finger is.stands is.filled) refl (ap (λ z. x_of xs z) (sym right.0)) (find (begins node.row (x_of xs node.line)) (layout names pins p r xs f).strips) refl
    ]

-- a net without a trunk has none for the pad of a gate
no_pad : (f : Frame) (trunks : List Trunk) (place : GatePlace) → trunk_of trunks place.net ≡ None → gate_reach f trunks place ≡ None
no_pad f trunks place e = by (gate_reach f trunks place) refl
  where
    by : (o : Option ℕ) → gate_reach f trunks place ≡ o → gate_reach f trunks place ≡ None
    by None is = is
    by (Some y) is =
        let pad : PadFrom f trunks place y = pad_from f trunks place y is in
        absurd (none_found (λ (t : Trunk). t.net.0 == place.net.0) trunks pad.trunk pad.listed ((net_decides pad.trunk.net place.net).1 pad.of) e)

-- the label of a net belongs to a piece of the net
pub tag_label : (names : List (List ℕ)) (pins : Pins) (p : Placement) (r : Routing) (xs : List ℕ) (f : Frame) (w : IsWired names pins p r xs f) → (net : NetNo) (t : Tag) → TagFrom pins f p.nodes r.trunks xs (gates_on f r.trunks xs (seats_of p.row)) net t → LabelOn (layout names pins p r xs f) w.has.netted (label_of names t) net
tag_label names pins p r xs f w net t (on_gnd e is) = subst (λ z. LabelOn (layout names pins p r xs f) w.has.netted (label_of names z) net) is (direct (layout names pins p r xs f) w.laid w.has.netted (metal gnd) Metal1 8 8 (get_or names net.0 []) net tt (sym e) refl (gnd_holds f r.tracks w.drawn.frame))
tag_label names pins p r xs f w net t (on_vdd e is) = subst (λ z. LabelOn (layout names pins p r xs f) w.has.netted (label_of names z) net) is (direct (layout names pins p r xs f) w.laid w.has.netted (metal vdd) Metal1 8 (f.p_edge + f.p_height + 16) (get_or names net.0 []) net tt (sym e) refl (vdd_holds f r.tracks w.drawn.frame))
tag_label names pins p r xs f w net t (on_trunk u found is) =
    let from = trunk_from r.trunks net u found in
    let b : Bar = bar_from f p.nodes r.trunks xs u in
    let listed : Contains (layout names pins p r xs f).bars b = contains_map (bar_from f p.nodes r.trunks xs) r.trunks u from.listed in
    let ends : b.left ≤ b.right = (w.laid.bars b listed).0 in
    subst (λ z. LabelOn (layout names pins p r xs f) w.has.netted (label_of names z) net) is (direct (layout names pins p r xs f) w.laid w.has.netted (metal (bar_of b)) Metal1 (x_of xs u.left) (track_y f u.track) (get_or names net.0 []) net listed from.of refl (omega (arith, ints)))
tag_label names pins p r xs f w net t (at_node signal none m found of is) =
    let there : Contains p.nodes m = found_all (λ z. Contains p.nodes z) (λ (z : NodePlace). z.net.0 == net.0) p.nodes m (all_from_contains (λ z. Contains p.nodes z) p.nodes (λ z c. c)) found in
    let bare : IsBare pins r m.net = record { signal = λ rail. signal (subst (IsRail pins) of rail); bare = ap (λ z. trunk_of r.trunks z) of ∙ none } in
    subst (λ z. LabelOn (layout names pins p r xs f) w.has.netted (label_of names z) net) is
    (subst (λ z. LabelOn (layout names pins p r xs f) w.has.netted (record { layer = Active; x = pos (x_of xs m.line); y = pos (node_y f m.row); name = get_or names m.net.0 [] }) z) of (node_label names pins p r xs f w m there bare (get_or names m.net.0 [])))
tag_label names pins p r xs f w net t (at_gate none g found of is) =
    let there : Contains (layout names pins p r xs f).gates g = found_all (λ z. Contains (gates_on f r.trunks xs (seats_of p.row)) z) (λ (z : Gate). z.net.0 == net.0) (gates_on f r.trunks xs (seats_of p.row)) g (all_from_contains (λ z. Contains (gates_on f r.trunks xs (seats_of p.row)) z) (gates_on f r.trunks xs (seats_of p.row)) (λ z c. c)) found in
    let a : GateFrom p.row f r.trunks xs g = gate_from p.row f r.trunks xs g there in
    let track : g.track ≡ None = a.track ∙ no_pad f r.trunks a.place (ap (λ z. trunk_of r.trunks z) (sym a.net ∙ of) ∙ none) in
    subst (λ z. LabelOn (layout names pins p r xs f) w.has.netted (label_of names z) net) is (direct (layout names pins p r xs f) w.laid w.has.netted (gate (strip_of g)) Poly g.x (gate_y f g.n) (get_or names g.net.0 []) net there of refl (gate_holds f r.tracks w.drawn.frame g.x g.n g.p g.track (gate_is (layout names pins p r xs f) w.laid g there).finger track))
