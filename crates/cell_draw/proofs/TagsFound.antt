-- Each net of a routed row has a tag.
use Rattle.std.proofs.Common.{ℕ, ◌≡◌, ◌+◌, ◌<◌, ◌==◌, Bool, true, false, if◌then◌else◌, List, [], ◌∷◌, Option, Some, None, inl, inr, refl, sym, ap, subst, ◌∙◌, arith, Contains, find, filter, length, option_map}
use Rattle.cell_num.specs.declared.net.NetNo.{NetNo}
use Rattle.cell_num.specs.declared.net.Pins.{Pins}
use Rattle.cell_num.specs.Fingers.{AreSound}
use Rattle.cell_num.specs.Pins.{IsRail, ArePins}
use Rattle.cell_num.proofs.Lists.{contains_filter_map, all_from_contains, Kept, kept_from}
use Rattle.row_model.proofs.Decide.{net_decides}
use Rattle.row_place.specs.declared.placement.NodePlace.{NodePlace}
use Rattle.row_place.specs.declared.placement.GatePlace.{GatePlace}
use Rattle.row_place.specs.declared.placement.Placement.{Placement}
use Rattle.row_place.specs.Places.{placement_of}
use Rattle.row_place.specs.Steps.{gate_of, gates_of}
use Rattle.row_place.specs.Trunks.{lines_of}
use Rattle.row_place.specs.Units.{seats_of}
use Rattle.row_place.proofs.Pins.{has_pins}
use Rattle.channel_route.specs.declared.routing.Trunk.{Trunk}
use Rattle.channel_route.specs.declared.routing.Routing.{Routing}
use Rattle.cell_draw.specs.declared.layout.Frame.{Frame}
use Rattle.cell_draw.specs.declared.layout.Gate.{Gate}
use Rattle.cell_draw.specs.declared.layout.Tag.{Tag}
use Rattle.row_compact.specs.Solution.{x_of}
use Rattle.cell_draw.specs.Frame.{track_y}
use Rattle.cell_draw.specs.Layouts.{tag_of, net_tag, node_tag, gate_tag, metal_tag, or_else, place_tag, trunk_of, gates_on, gate_at, gate_with}
use Rattle.cell_draw.specs.Sound.{IsSoundRow}
use Rattle.cell_draw.proofs.Found.{found_all, found_is, none_found}
use Rattle.cell_draw.proofs.NetsRouted.{places}

-- ---- each net is met by a place
-- where every net counts as a pin
met : (names : List (List ℕ)) (pins : Pins) (p : Placement) → IsSoundRow names pins p.row → p ≡ placement_of p.row → ArePins (length names) pins → (net : NetNo) → net.0 < length names → (IsRail pins net → ⊥) → 0 < length (lines_of p net)
met names pins p s is are net low signal =
    let all : Pins = record { pins = length names; vdd = pins.vdd; gnd = pins.gnd } in
    let named : AreSound names all s.fingers = record {
      named = s.sound.named;
      names_differ = s.sound.names_differ;
      p = s.sound.p;
      n = s.sound.n;
      p_gates = s.sound.p_gates;
      n_gates = s.sound.n_gates;
      p_ends = s.sound.p_ends;
      n_ends = s.sound.n_ends;
      p_widths = s.sound.p_widths;
      n_widths = s.sound.n_widths;
      met = s.sound.met;
    } in
    let pinned : ArePins s.fingers.nets all = record { named = omega (arith, s.sound.named); vdd = omega (arith, are.vdd, are.named); gnd = omega (arith, are.gnd, are.named); differ = are.differ } in
    subst (λ z. 0 < length (lines_of z net)) (sym is) (has_pins names all s.fingers p.row named pinned s.arranged net low signal)

-- nothing passes where nothing is found
none_passes : {X : Type 0} (test : X → Bool) (xs : List X) → find test xs ≡ None → length (filter test xs) ≡ 0
none_passes test [] e = refl
none_passes {X} test (x ∷ xs) e = by (test x) refl (none_passes test xs)
  where
    by : (b : Bool) → test x ≡ b → (find test xs ≡ None → length (filter test xs) ≡ 0) → length (filter test (x ∷ xs)) ≡ 0
    by true here rest = absurd (let found : find test (x ∷ xs) ≡ Some x = rw here refl in cc)
    by false here rest =
        let same : find test (x ∷ xs) ≡ find test xs = rw here refl in
        let all : filter test (x ∷ xs) ≡ filter test xs = rw here refl in
        ap length all ∙ rest (sym same ∙ e)

-- a gate place of a net is the place of a gate of the layout
gate_found : (p : Placement) (f : Frame) (trunks : List Trunk) (xs : List ℕ) (net : NetNo) → p ≡ placement_of p.row → find (λ (g : Gate). g.net.0 == net.0) (gates_on f trunks xs (seats_of p.row)) ≡ None → find (λ (z : GatePlace). z.net.0 == net.0) p.gates ≡ None
gate_found p f trunks xs net is none = by (find (λ (z : GatePlace). z.net.0 == net.0) p.gates) refl
  where
    by : (o : Option GatePlace) → find (λ (z : GatePlace). z.net.0 == net.0) p.gates ≡ o → find (λ (z : GatePlace). z.net.0 == net.0) p.gates ≡ None
    by None e = e
    by (Some g) e =
        let there : Contains p.gates g = found_all (λ z. Contains p.gates z) (λ (z : GatePlace). z.net.0 == net.0) p.gates g (all_from_contains (λ z. Contains p.gates z) p.gates (λ z c. c)) e in
        let placed : Contains (gates_of (seats_of p.row)) g = subst (λ zs. Contains zs g) (ap (λ (z : Placement). z.gates) is) there in
        let k : Kept gate_of (seats_of p.row) g = kept_from gate_of (seats_of p.row) g placed in
        let made : Gate = gate_with f trunks xs k.from g in
        let gives : gate_at f trunks xs k.from ≡ Some made = ap (λ o. option_map (gate_with f trunks xs k.from) o) k.gives in
        let listed : Contains (gates_on f trunks xs (seats_of p.row)) made = contains_filter_map (gate_at f trunks xs) (seats_of p.row) k.from made k.there gives in
        absurd (none_found (λ (z : Gate). z.net.0 == net.0) (gates_on f trunks xs (seats_of p.row)) made listed (found_is (λ (z : GatePlace). z.net.0 == net.0) p.gates g e) none)

-- each net has a tag
pub record HasTag (pins : Pins) (p : Placement) (r : Routing) (xs : List ℕ) (f : Frame) (net : NetNo) : Type 0 where
  pub tag : Tag
  pub gives : tag_of pins f p.nodes r.trunks xs (gates_on f r.trunks xs (seats_of p.row)) net ≡ Some tag

pub has_tag : (names : List (List ℕ)) (pins : Pins) (p : Placement) (r : Routing) (xs : List ℕ) (f : Frame) → IsSoundRow names pins p.row → p ≡ placement_of p.row → ArePins (length names) pins → (net : NetNo) → net.0 < length names → HasTag pins p r xs f net
has_tag names pins p r xs f s is are net low = let t = rails (net.0 == pins.gnd.0) (net.0 == pins.vdd.0) refl refl in record { tag = t.0; gives = t.1 }
  where
    gate : (IsRail pins net → ⊥) → find (λ (z : NodePlace). z.net.0 == net.0) p.nodes ≡ None → (o : Option Gate) → find (λ (z : Gate). z.net.0 == net.0) (gates_on f r.trunks xs (seats_of p.row)) ≡ o → (t : Tag) × (option_map (gate_tag f) o ≡ Some t)
    gate signal none (Some g) e = (gate_tag f g, refl)
    gate signal none None e =
        let nodes = none_passes (λ (z : NodePlace). z.net.0 == net.0) p.nodes none in
        let gates = none_passes (λ (z : GatePlace). z.net.0 == net.0) p.gates (gate_found p f r.trunks xs net is e) in
        absurd (omega (arith, nodes, gates, places p net, met names pins p s is are net low signal))

    node : (IsRail pins net → ⊥) → (o : Option NodePlace) → find (λ (z : NodePlace). z.net.0 == net.0) p.nodes ≡ o → (t : Tag) × (or_else (option_map (node_tag f xs) o) (option_map (gate_tag f) (find (λ (z : Gate). z.net.0 == net.0) (gates_on f r.trunks xs (seats_of p.row)))) ≡ Some t)
    node signal (Some m) e = (node_tag f xs m, refl)
    node signal None e = gate signal e (find (λ (z : Gate). z.net.0 == net.0) (gates_on f r.trunks xs (seats_of p.row))) refl

    trunk : (IsRail pins net → ⊥) → (o : Option Trunk) → (t : Tag) × (or_else (option_map (λ (u : Trunk). metal_tag (x_of xs u.left) (track_y f u.track) net) o) (place_tag f p.nodes xs (gates_on f r.trunks xs (seats_of p.row)) net) ≡ Some t)
    trunk signal (Some u) = (metal_tag (x_of xs u.left) (track_y f u.track) net, refl)
    trunk signal None = node signal (find (λ (z : NodePlace). z.net.0 == net.0) p.nodes) refl

    rails : (g v : Bool) → (net.0 == pins.gnd.0) ≡ g → (net.0 == pins.vdd.0) ≡ v → (t : Tag) × ((if g then Some (metal_tag 8 8 net) else if v then Some (metal_tag 8 (f.p_edge + f.p_height + 16) net) else net_tag f p.nodes r.trunks xs (gates_on f r.trunks xs (seats_of p.row)) net) ≡ Some t)
    rails true v eg ev = (metal_tag 8 8 net, refl)
    rails false true eg ev = (metal_tag 8 (f.p_edge + f.p_height + 16) net, refl)
    rails false false eg ev = trunk signal (trunk_of r.trunks net)
      where
        signal : IsRail pins net → ⊥
        signal (inl e) = let wrong : true ≡ false = sym ((net_decides net pins.vdd).1 e) ∙ ev in cc
        signal (inr e) = let wrong : true ≡ false = sym ((net_decides net pins.gnd).1 e) ∙ eg in cc
