-- Every cell of a pin's ports is in the pin's net.
use Rattle.std.proofs.Common.{ℕ, ◌≡◌, ◌<◌, ◌==◌, List, [], length, map, get_or, sym, subst, ◌∙◌, refl, inl, inr, All, Contains}
use Rattle.std.proofs.lemmas.Bool.{cases_eq, eqb-true}
use Rattle.cell_num.specs.declared.net.Pins.{Pins}
use Rattle.cell_num.specs.Pins.{ArePins}
use Rattle.cell_num.proofs.In.{Image, in_map}
use Rattle.cell_num.proofs.Lists.{all_one, all_from_contains}
use Rattle.row_place.specs.declared.placement.Placement.{Placement}
use Rattle.row_place.specs.Places.{IsPlacement}
use Rattle.channel_route.specs.declared.routing.Trunk.{Trunk}
use Rattle.channel_route.specs.declared.routing.Routing.{Routing}
use Rattle.channel_route.specs.Wiring.{IsWiring}
use Rattle.row_compact.specs.Allowed.{AreAllowed, stretches_of}
use Rattle.box_geom.specs.declared.shape.Shape.{Shape}
use Rattle.box_geom.proofs.Filters.{IsKept, in_filter}
use Rattle.scmos_rules.specs.declared.rules.Deck.TheVariants.{Plain}
use Rattle.cell_draw.specs.declared.layout.Frame.{Frame}
use Rattle.cell_draw.specs.declared.layout.Layout.{Layout}
use Rattle.cell_draw.specs.Drawings.{drawn_of}
use Rattle.cell_draw.specs.Layouts.{bar_of, layout_of, net_no}
use Rattle.cell_draw.specs.Shapes.{gnd_rail, vdd_rail, shapes_of}
use Rattle.cell_draw.specs.Sound.{IsSoundRow}
use Rattle.cell_draw.proofs.MetalNamed.{IsDrawnRow, frame_at, gnd_named, vdd_named, trunk_named}
use Rattle.lef_write.specs.Drawn.{IsOfNet, AreOfNet, net_trunks, trunk_metal}
use Rattle.lef_write.specs.Ports.{ports_of, port_shapes}
use Rattle.lef_write.proofs.Own.{own_shapes, pin_shapes, gnd_shapes, vdd_shapes, signal_shapes}

-- the shape is of the net with this number
abbrev IsOfNumber : List (List ℕ) → Pins → Placement → Routing → List ℕ → ℕ → ℕ → Shape → Type 0
IsOfNumber names pins p r xs height n s = IsOfNet Plain (get_or names n []) (drawn_of names pins p r xs height).shapes s

trunk_in_net : (names : List (List ℕ)) (pins : Pins) (p : Placement) (r : Routing) (xs : List ℕ) (height n : ℕ) → IsDrawnRow names pins p r xs → (s : Shape) → Contains (map (trunk_metal (frame_at p r xs height) xs) (net_trunks n r.trunks)) s → IsOfNumber names pins p r xs height n s
trunk_in_net names pins p r xs height n d s there =
    let i : Image (trunk_metal (frame_at p r xs height) xs) (net_trunks n r.trunks) s = in_map (trunk_metal (frame_at p r xs height) xs) (net_trunks n r.trunks) s there in
    let k : IsKept (λ (t : Trunk). t.net.0 == n) r.trunks i.of = in_filter (λ (t : Trunk). t.net.0 == n) r.trunks i.of i.listed in
    subst (λ z. IsOfNumber names pins p r xs height n z) i.is (subst (λ z. IsOfNumber names pins p r xs height z (trunk_metal (frame_at p r xs height) xs i.of)) (eqb-true i.of.net.0 n k.passes) (trunk_named names pins p r xs height d i.of k.listed))

-- the shapes at the ports of a pin, which are these
ports_in_net : (names : List (List ℕ)) (pins : Pins) (p : Placement) (r : Routing) (xs : List ℕ) (height n : ℕ) (found : List Shape) → port_shapes (ports_of pins r.trunks (drawn_of names pins p r xs height).shapes.rects) (drawn_of names pins p r xs height).shapes.rects (net_no n) ≡ found → All (IsOfNumber names pins p r xs height n) found → AreOfNet Plain names (ports_of pins r.trunks (drawn_of names pins p r xs height).shapes.rects) (drawn_of names pins p r xs height) n
ports_in_net names pins p r xs height n found e own = subst (λ z. All (IsOfNumber names pins p r xs height n) z) (sym e) own

pub of_net : (names : List (List ℕ)) (pins : Pins) (p : Placement) (r : Routing) (xs : List ℕ) (height n : ℕ) → IsPlacement p → IsSoundRow names pins p.row → IsWiring p pins r → AreAllowed p pins (stretches_of r.trunks) xs → ArePins (length names) pins → n < pins.pins → AreOfNet Plain names (ports_of pins r.trunks (drawn_of names pins p r xs height).shapes.rects) (drawn_of names pins p r xs height) n
of_net names pins p r xs height n is row wiring allowed are lt =
    let f : Frame = frame_at p r xs height in
    let l : Layout = layout_of (length names) pins p r xs height in
    let d : IsDrawnRow names pins p r xs = record { placed = is; row = row; wiring = wiring; allowed = allowed; are = are } in
    let found : port_shapes (ports_of pins r.trunks (shapes_of l)) (shapes_of l) (net_no n) ≡ own_shapes l pins r.trunks n = pin_shapes l pins r.trunks n lt in
    elim (cases_eq n pins.gnd.0) [
      | inl gnd ↦ ports_in_net names pins p r xs height n _ (found ∙ gnd_shapes l pins r.trunks n gnd) (all_one (IsOfNumber names pins p r xs height n) (gnd_rail f) (subst (λ z. IsOfNumber names pins p r xs height z (gnd_rail f)) (sym gnd) (gnd_named names pins p r xs height d)))
      | inr no_gnd ↦ elim (cases_eq n pins.vdd.0) [
        | inl vdd ↦ ports_in_net names pins p r xs height n _ (found ∙ vdd_shapes l pins r.trunks n no_gnd vdd) (all_one (IsOfNumber names pins p r xs height n) (vdd_rail f) (subst (λ z. IsOfNumber names pins p r xs height z (vdd_rail f)) (sym vdd) (vdd_named names pins p r xs height d)))
        | inr no_vdd ↦ ports_in_net names pins p r xs height n _ (found ∙ signal_shapes l pins r.trunks (bar_of f p.nodes r.trunks xs) n refl no_gnd no_vdd) (all_from_contains (IsOfNumber names pins p r xs height n) (map (trunk_metal (frame_at p r xs height) xs) (net_trunks n r.trunks)) (trunk_in_net names pins p r xs height n d))
      ]
    ]
