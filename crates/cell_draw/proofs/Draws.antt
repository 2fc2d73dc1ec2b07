-- What the calls say of what they draw.
use Rattle.std.proofs.Common.{ℕ, ◌≡◌, ◌*◌, ◌≤◌, ◌<◌, List, length, refl, sym, subst, arith, All, Contains, map}
use Rattle.std.proofs.lemmas.List.Elements.{All-contains, All-nil}
use Rattle.box_geom.specs.declared.shape.Shape.{Shape}
use Rattle.box_geom.specs.declared.shape.Label.{Label}
use Rattle.cell_num.specs.declared.net.Pins.{Pins}
use Rattle.cell_num.proofs.In.{Image, in_map}
use Rattle.cell_num.proofs.Lists.{all_from_contains}
use Rattle.row_place.specs.declared.placement.Placement.{Placement}
use Rattle.row_place.specs.Places.{IsPlacement}
use Rattle.row_place.specs.Units.{seats_of}
use Rattle.channel_route.specs.declared.routing.Trunk.{Trunk}
use Rattle.channel_route.specs.declared.routing.Routing.{Routing}
use Rattle.channel_route.specs.Wiring.{IsWiring}
use Rattle.row_compact.specs.Allowed.{AreAllowed, stretches_of}
use Rattle.row_compact.specs.Solution.{x_of}
use Rattle.scmos_rules.specs.Rules.{Obeys}
use Rattle.scmos_rules.specs.declared.rules.Deck.TheVariants.{Plain}
use Rattle.cell_draw.specs.declared.layout.Frame.{Frame}
use Rattle.cell_draw.specs.declared.layout.Bar.{Bar}
use Rattle.cell_draw.specs.declared.layout.Gate.{Gate}
use Rattle.cell_draw.specs.declared.layout.Layout.{Layout}
use Rattle.cell_draw.specs.Drawings.{label_of, base_of}
use Rattle.cell_draw.specs.Frame.{frame_of}
use Rattle.cell_draw.specs.Laid.{IsGate, IsLaid}
use Rattle.cell_draw.specs.Layouts.{width_of, bar_of, gates_on, laid_out, layout_of}
use Rattle.cell_draw.specs.Shapes.{shapes_of}
use Rattle.cell_draw.specs.Small.{IsSmallFrame, IsSmallTag, IsSmall, HasWidths}
use Rattle.cell_draw.specs.Sound.{IsSoundRow, AreLines}
use Rattle.cell_draw.proofs.BridgeFrom.{IsDrawn}
use Rattle.cell_draw.proofs.BridgeLines.{x_most}
use Rattle.cell_draw.proofs.BridgeWhole.{lines_of_allowed, frame_is, laid, base_laid}
use Rattle.cell_draw.proofs.RulesWhole.{obeys}
use Rattle.cell_draw.proofs.Smalls.{small, tags_small}
use Rattle.cell_draw.proofs.Tags.{labels_named}

base_is : (pins : Pins) (p : Placement) (tracks height : ℕ) (xs : List ℕ) → IsPlacement p → AreLines p xs → All HasWidths p.row → IsLaid (base_of (frame_of p.row tracks height (width_of p xs)) pins p xs)
base_is pins p tracks height xs is lines wide = base_laid pins p tracks xs (frame_of p.row tracks height (width_of p xs)) is lines wide (frame_is p tracks height xs lines) refl refl refl

pub base_small : (pins : Pins) (p : Placement) (tracks height : ℕ) (xs : List ℕ) (f : Frame) (l : Layout) → IsPlacement p → AreLines p xs → All HasWidths p.row → IsSmallFrame f → f ≡ frame_of p.row tracks height (width_of p xs) → l ≡ base_of f pins p xs → IsSmall l
base_small pins p tracks height xs f l is lines wide frame ef el =
    subst (λ z. IsSmall z) (sym el) (small (base_of f pins p xs) (subst (λ z. IsLaid (base_of z pins p xs)) (sym ef) (base_is pins p tracks height xs is lines wide)) frame (All-nil (λ (b : Bar). b.right ≤ 1000000)) (All-nil IsSmallTag))

pub base_obeys : (shapes : List Shape) (pins : Pins) (p : Placement) (tracks height : ℕ) (xs : List ℕ) → shapes ≡ shapes_of (base_of (frame_of p.row tracks height (width_of p xs)) pins p xs) → IsPlacement p → AreLines p xs → All HasWidths p.row → Obeys Plain shapes
base_obeys shapes pins p tracks height xs e is lines wide = subst (λ z. Obeys Plain z) (sym e) (obeys (base_of (frame_of p.row tracks height (width_of p xs)) pins p xs) (base_is pins p tracks height xs is lines wide))

pub drawn_is : (names : List (List ℕ)) (pins : Pins) (p : Placement) (r : Routing) (xs : List ℕ) (height : ℕ) → IsPlacement p → IsSoundRow names pins p.row → IsWiring p pins r → AreAllowed p pins (stretches_of r.trunks) xs → IsDrawn names pins p r xs (frame_of p.row r.tracks height (width_of p xs))
drawn_is names pins p r xs height is row wiring allowed = record {
  placement = is;
  row = row;
  wiring = wiring;
  allowed = allowed;
  frame = frame_is p r.tracks height xs (lines_of_allowed p pins r xs allowed);
  width = refl;
  n_height = refl;
  p_height = refl;
}

pub drawing_obeys : (shapes : List Shape) (names : List (List ℕ)) (pins : Pins) (p : Placement) (r : Routing) (xs : List ℕ) (height : ℕ) → shapes ≡ shapes_of (layout_of (length names) pins p r xs height) → IsPlacement p → IsSoundRow names pins p.row → IsWiring p pins r → AreAllowed p pins (stretches_of r.trunks) xs → Obeys Plain shapes
drawing_obeys shapes names pins p r xs height e is row wiring allowed = subst (λ z. Obeys Plain z) (sym e) (obeys (layout_of (length names) pins p r xs height) (laid names pins p r xs (frame_of p.row r.tracks height (width_of p xs)) (length names) (drawn_is names pins p r xs height is row wiring allowed)))

pub drawing_named : (labels : List Label) (names : List (List ℕ)) (pins : Pins) (p : Placement) (r : Routing) (xs : List ℕ) (height : ℕ) → labels ≡ map (label_of names) (layout_of (length names) pins p r xs height).tags → All (λ (l : Label). Contains names l.name) labels
drawing_named labels names pins p r xs height e =
    let f : Frame = frame_of p.row r.tracks height (width_of p xs) in
    labels_named names pins f p.nodes r.trunks xs (gates_on f r.trunks xs (seats_of p.row)) labels e

pub low_tracks : (p : Placement) (pins : Pins) (r : Routing) → IsWiring p pins r → r.tracks ≤ 160 → (trunks : List Trunk) → trunks ≡ r.trunks → All (λ (t : Trunk). t.track ≤ 1000) trunks
low_tracks p pins r wiring few trunks e = subst (λ z. All (λ (t : Trunk). t.track ≤ 1000) z) (sym e) (all_from_contains (λ (t : Trunk). t.track ≤ 1000) r.trunks (λ t there. omega (arith, few, All-contains (λ (u : Trunk). u.track < r.tracks) r.trunks t wiring.tracks there)))

pub drawn_small : (names : List (List ℕ)) (pins : Pins) (p : Placement) (r : Routing) (xs : List ℕ) (height nets : ℕ) (f : Frame) (l : Layout) → IsPlacement p → IsSoundRow names pins p.row → IsWiring p pins r → AreAllowed p pins (stretches_of r.trunks) xs → x_of xs (2 * length p.units) ≤ 1000000 → IsSmallFrame f → f ≡ frame_of p.row r.tracks height (width_of p xs) → l ≡ laid_out f nets pins p r.trunks xs → IsSmall l
drawn_small names pins p r xs height nets f l is row wiring allowed last frame ef el = subst (λ z. IsSmall z) (sym el) (small (laid_out f nets pins p r.trunks xs) whole frame bars tags)
  where
    lines : (line : ℕ) → x_of xs line ≤ 1000000
    lines = x_most p xs (lines_of_allowed p pins r xs allowed) last

    drawn : IsDrawn names pins p r xs f
    drawn = subst (λ z. IsDrawn names pins p r xs z) (sym ef) (drawn_is names pins p r xs height is row wiring allowed)

    whole : IsLaid (laid_out f nets pins p r.trunks xs)
    whole = laid names pins p r xs f nets drawn

    bars : All (λ (b : Bar). b.right ≤ 1000000) (map (bar_of f p.nodes r.trunks xs) r.trunks)
    bars = all_from_contains (λ (b : Bar). b.right ≤ 1000000) (map (bar_of f p.nodes r.trunks xs) r.trunks) (λ b there.
        let i : Image (bar_of f p.nodes r.trunks xs) r.trunks b = in_map (bar_of f p.nodes r.trunks xs) r.trunks b there in
        subst (λ (z : Bar). z.right ≤ 1000000) i.is (lines i.of.right))

    gates : All (λ (g : Gate). g.x ≤ 1000000) (gates_on f r.trunks xs (seats_of p.row))
    gates = all_from_contains (λ (g : Gate). g.x ≤ 1000000) (gates_on f r.trunks xs (seats_of p.row)) (λ g there.
        let g_is : IsGate f g = All-contains (IsGate f) (gates_on f r.trunks xs (seats_of p.row)) g whole.gates there in
        omega (arith, g_is.inside.right, frame.right))

    tags : All IsSmallTag (laid_out f nets pins p r.trunks xs).tags
    tags = tags_small pins f r.tracks nets p.nodes r.trunks xs (gates_on f r.trunks xs (seats_of p.row)) (record { small = frame; frame = drawn.frame; on_tracks = wiring.tracks; lines = lines; on_gates = gates })
