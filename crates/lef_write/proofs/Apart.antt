-- The ports of a drawn cell stand at different places.
use Rattle.std.proofs.Common.{ℕ, ◌≡◌, ◌≢◌, ◌+◌, ◌≤◌, List, length, map, refl, ap, ◌∙◌, arith, length-append}
use Rattle.std.proofs.lemmas.List.{length-map}
use Rattle.cell_num.specs.declared.net.Pins.{Pins}
use Rattle.cell_num.proofs.Pairs.{pairs_map}
use Rattle.box_geom.specs.declared.layer.Layer.TheVariants.{Metal1}
use Rattle.box_geom.specs.declared.shape.Shape.{Shape}
use Rattle.channel_route.specs.declared.routing.Trunk.{Trunk}
use Rattle.row_place.specs.declared.placement.Placement.{Placement}
use Rattle.channel_route.specs.declared.routing.Routing.{Routing}
use Rattle.cell_draw.specs.declared.layout.Bar.{Bar}
use Rattle.cell_draw.specs.declared.layout.Layout.{Layout}
use Rattle.cell_draw.specs.Drawings.{drawn_of}
use Rattle.cell_draw.specs.Layouts.{bar_of, layout_of}
use Rattle.cell_draw.specs.Shapes.{gnd_rail, bar_metal, shapes_of}
use Rattle.lef_write.specs.declared.port.Port.{Port}
use Rattle.lef_write.specs.Drawn.{shapes_on, AreAllMetal}
use Rattle.lef_write.specs.Ports.{places_on, ports_of}
use Rattle.lef_write.proofs.PortPlaces.{AreApart, all_apart}
use Rattle.lef_write.proofs.Members.{Differ}
use Rattle.lef_write.proofs.Placed.{port_in_metal, ports_are}
use Rattle.lef_write.proofs.Rest.{different, all_metal}
use Rattle.lef_write.proofs.Shown.{places, front, metal_of, as_many}

pub ports_apart : (pins : Pins) (trunks : List Trunk) (rects : List Shape) → length trunks + 2 ≤ length (places_on Metal1 rects) → Differ (map (λ (p : Port). p.shape) (ports_of pins trunks rects))
ports_apart pins trunks rects more =
    pairs_map AreApart (λ (p : Port). Unit {0}) (λ (a b : ℕ). a ≢ b) (λ (p : Port). p.shape) (ports_of pins trunks rects) (λ p q u v differ. differ) (λ k d lt. tt)
    (all_apart pins trunks (places_on Metal1 rects) (different Metal1 rects 0) more)

-- ports and obstructions of a drawn cell are its metal
pub drawn_metal : (l : Layout) (pins : Pins) (trunks : List Trunk) (bar : Trunk → Bar) → l.bars ≡ map bar trunks → AreAllMetal (ports_of pins trunks (shapes_of l)) (shapes_of l)
drawn_metal l pins trunks bar bars =
    let count : length (places l) ≡ length (shapes_on Metal1 (shapes_of l)) = as_many Metal1 (shapes_of l) 0 in
    let whole : length (shapes_on Metal1 (shapes_of l)) ≡ length (front l) + length (map bar_metal l.bars) = ap length (metal_of l) ∙ length-append (front l) (map bar_metal l.bars) in
    let same : length l.bars ≡ length trunks = ap length bars ∙ length-map trunks bar in
    all_metal (ports_of pins trunks (shapes_of l)) (shapes_of l) (gnd_rail l.frame) (ports_are pins trunks (shapes_of l)) (port_in_metal pins trunks (places l)) (ports_apart pins trunks (shapes_of l) (omega (arith, count, whole, same, length-map l.bars bar_metal)))

-- the same for a routed row
pub metal : (names : List (List ℕ)) (pins : Pins) (p : Placement) (r : Routing) (xs : List ℕ) (height : ℕ) → AreAllMetal (ports_of pins r.trunks (drawn_of names pins p r xs height).shapes.rects) (drawn_of names pins p r xs height).shapes.rects
metal names pins p r xs height = drawn_metal (layout_of (length names) pins p r xs height) pins r.trunks (bar_of (layout_of (length names) pins p r xs height).frame p.nodes r.trunks xs) refl
