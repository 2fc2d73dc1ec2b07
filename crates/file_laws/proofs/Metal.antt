-- All metal of a drawing is in a port or an obstruction of its abstract.
use Rattle.std.proofs.Common.{ℕ, ◌≡◌, ◌&&◌, not, Bool, cond, List, ◌++◌, Some, None, map, All, Contains, refl, sym, ap, subst, ◌∙◌, inl, inr}
use Rattle.std.specs.Prelude.{Option, slice_get}
use Rattle.std.specs.List.{enumerate_from, filter, flat_map, range_with_len}
use Rattle.std.proofs.lemmas.Bool.{and_parts, cases_Bool, eq-eqb}
use Rattle.std.proofs.lemmas.List.Elements.{All-contains, Contains-append_cases, Contains-append_left, Contains-append_right}
use Rattle.std.proofs.lemmas.List.Sorted.{Contains-permutation, IsPermutation-sym}
use Rattle.cell_num.proofs.In.{Image, contains_flat, contains_map, in_map}
use Rattle.cell_num.proofs.Lists.{Kept, all_two, contains_filter_map, kept_from, some_same}
use Rattle.box_geom.specs.Layers.{layer_no, same_layer}
use Rattle.box_geom.specs.Rectangle.{Rectangle, Covers}
use Rattle.box_geom.specs.declared.layer.Layer.{Layer}
use Rattle.box_geom.specs.declared.layer.Layer.TheVariants.{Metal1, Metal2}
use Rattle.box_geom.specs.declared.shape.Shape.{Shape}
use Rattle.box_geom.proofs.Filters.{IsKept, contains_filter, in_filter}
use Rattle.spice_net.specs.declared.subckt.Subckt.{Subckt}
use Rattle.cell_draw.specs.Layouts.{net_no}
use Rattle.cell_draw.specs.declared.drawing.Drawing.{Drawing}
use Rattle.file_laws.proofs.Ranges.{in_range}
use Rattle.lef_write.specs.Drawn.{AreAllMetal, all_port_shapes, shapes_on}
use Rattle.lef_write.specs.Ports.{IsPort, is_taken, obstruction_on, obstructions, obstructions_on, port_shapes, shape_of}
use Rattle.lef_write.specs.declared.port.Port.{Port}
use Rattle.lef_write.proofs.Placed.{one_layer}
use Rattle.lef_read.specs.declared.cell.LefPin.{LefPin}
use Rattle.lef_read.specs.declared.cell.LefRect.{LefRect}
use Rattle.lef_read.specs.Agreement.{IsShown, metals, on_layer as shown_of, shown_on}
use Rattle.file_laws.specs.Drawn.{macro_drawn, on_layer, pin_drawn}
use Rattle.file_laws.specs.Abstracts.{IsOfPin}

-- a rectangle of the layer, among those of an abstract
shown : (layer : Layer) (rects : List LefRect) (s : Shape) (on : Layer) → Contains rects (on_layer on s) → on ≡ layer → Contains (shown_of layer rects) s.rect
shown layer rects s on there same =
    contains_map (λ (r : LefRect). r.rect) (filter (λ (r : LefRect). same_layer r.layer layer) rects) (on_layer on s)
    (contains_filter (λ (r : LefRect). same_layer r.layer layer) rects (on_layer on s) there (eq-eqb (layer_no on) (layer_no layer) (ap layer_no same)))

-- ---- ports
port_shown : (cell : Subckt) (ports : List Port) (d : Drawing) (port : Port) (s : Shape) → Contains ports port → IsOfPin cell port → slice_get d.shapes.rects port.shape ≡ Some s → Contains (shown_on Metal1 (macro_drawn cell ports d)) s.rect
port_shown cell ports d port s there own at =
    Contains-append_left (flat_map (λ (p : LefPin). shown_of Metal1 p.ports) (macro_drawn cell ports d).pins) (shown_of Metal1 (macro_drawn cell ports d).obstructions) s.rect
    (contains_flat (λ (p : LefPin). shown_of Metal1 p.ports) (macro_drawn cell ports d).pins (pin_drawn cell ports d.shapes.rects port.pin.0) s.rect
    (contains_map (pin_drawn cell ports d.shapes.rects) (range_with_len 0 cell.pins.pins) port.pin.0 (in_range cell.pins.pins port.pin.0 own))
    (shown Metal1 (map (on_layer Metal1) (port_shapes ports d.shapes.rects (net_no port.pin.0))) s Metal1 (contains_map (on_layer Metal1) (port_shapes ports d.shapes.rects (net_no port.pin.0)) s found) refl))
  where
    found : Contains (port_shapes ports d.shapes.rects (net_no port.pin.0)) s
    found = contains_filter_map (shape_of (net_no port.pin.0) d.shapes.rects) ports port s there (ap (λ (b : Bool). cond b (slice_get d.shapes.rects port.shape) None) (eq-eqb port.pin.0 port.pin.0 refl) ∙ at)

-- ---- obstructions
obstructs_on : (layer : Layer) (ports : List Port) (placed : ℕ × Shape) (s : Shape) → obstruction_on layer ports placed ≡ Some s → s.layer ≡ layer
obstructs_on layer ports placed s gives = elim (cases_Bool (same_layer placed.1.layer layer && not (is_taken ports placed.0))) [
  | inl is ↦ let e : placed.1 ≡ s = some_same placed.1 s (sym (ap (λ (b : Bool). cond b (Some placed.1) None) is) ∙ gives) in
      subst (λ (z : Shape). z.layer ≡ layer) e (one_layer placed.1.layer layer (and_parts (same_layer placed.1.layer layer) (not (is_taken ports placed.0)) is).0)
  | inr none ↦ absurd (nothing (sym (ap (λ (b : Bool). cond b (Some placed.1) None) none) ∙ gives))
]
  where
    nothing : ◌≡◌ {A = Option Shape} None (Some s) → ⊥
    nothing e = cc

layer_of : (layer : Layer) (ports : List Port) (rects : List Shape) (s : Shape) → Contains (obstructions_on layer ports rects) s → s.layer ≡ layer
layer_of layer ports rects s there =
    let k : Kept (obstruction_on layer ports) (enumerate_from 0 rects) s = kept_from (obstruction_on layer ports) (enumerate_from 0 rects) s there in
    obstructs_on layer ports k.from s k.gives

obstruction_shown : (layer on : Layer) (cell : Subckt) (ports : List Port) (d : Drawing) (s : Shape) → Contains (macro_drawn cell ports d).obstructions (on_layer on s) → on ≡ layer → Contains (shown_on layer (macro_drawn cell ports d)) s.rect
obstruction_shown layer on cell ports d s there same =
    Contains-append_right (flat_map (λ (p : LefPin). shown_of layer p.ports) (macro_drawn cell ports d).pins) (shown_of layer (macro_drawn cell ports d).obstructions) s.rect (shown layer (macro_drawn cell ports d).obstructions s on there same)

-- ---- both
two_metals : Metal1 ≡ Metal2 → ⊥
two_metals e = absurd cc

-- a shape at a port stands on metal1
at_port : (layer : Layer) (cell : Subckt) (ports : List Port) (d : Drawing) (s : Shape) → All (IsPort d.shapes.rects) ports → All (IsOfPin cell) ports → s.layer ≡ layer → Kept (λ (port : Port). slice_get d.shapes.rects port.shape) ports s → Contains (shown_on layer (macro_drawn cell ports d)) s.rect
at_port layer cell ports d s are own on k =
    let is = All-contains (IsPort d.shapes.rects) ports k.from are k.there in
    let same : is.shape ≡ s = some_same is.shape s (sym is.there ∙ k.gives) in
    let metal : Metal1 ≡ layer = sym (subst (λ (z : Shape). z.layer ≡ Metal1) same is.on) ∙ on in
    subst (λ l. Contains (shown_on l (macro_drawn cell ports d)) s.rect) metal (port_shown cell ports d k.from s k.there (All-contains (IsOfPin cell) ports k.from own k.there) k.gives)

rest_shown : (layer : Layer) (cell : Subckt) (ports : List Port) (d : Drawing) (s : Shape) → s.layer ≡ layer → Contains (obstructions ports d.shapes.rects) s → Contains (shown_on layer (macro_drawn cell ports d)) s.rect
rest_shown layer cell ports d s on there = elim (Contains-append_cases (obstructions_on Metal1 ports d.shapes.rects) (obstructions_on Metal2 ports d.shapes.rects) s there) [
  | inl one ↦ obstruction_shown layer Metal1 cell ports d s (Contains-append_left first second (on_layer Metal1 s) (contains_map (on_layer Metal1) (obstructions_on Metal1 ports d.shapes.rects) s one)) (sym (layer_of Metal1 ports d.shapes.rects s one) ∙ on)
  | inr two ↦ obstruction_shown layer Metal2 cell ports d s (Contains-append_right first second (on_layer Metal2 s) (contains_map (on_layer Metal2) (obstructions_on Metal2 ports d.shapes.rects) s two)) (sym (layer_of Metal2 ports d.shapes.rects s two) ∙ on)
]
  where
    first : List LefRect
    first = map (on_layer Metal1) (obstructions_on Metal1 ports d.shapes.rects)

    second : List LefRect
    second = map (on_layer Metal2) (obstructions_on Metal2 ports d.shapes.rects)

all_shown : (layer : Layer) (cell : Subckt) (ports : List Port) (d : Drawing) → All (IsPort d.shapes.rects) ports → All (IsOfPin cell) ports → AreAllMetal ports d.shapes.rects → ((s : Shape) → Contains (shapes_on layer d.shapes.rects) s → Contains (shapes_on Metal1 d.shapes.rects ++ shapes_on Metal2 d.shapes.rects) s) → IsShown d.shapes (macro_drawn cell ports d) layer
all_shown layer cell ports d are own metal inside x y c = by (in_map (λ (s : Shape). s.rect) (shapes_on layer d.shapes.rects) c.rect c.listed)
  where
    listed : (s : Shape) → Contains (shapes_on layer d.shapes.rects) s → Contains (shown_on layer (macro_drawn cell ports d)) s.rect
    listed s there =
        let k : IsKept (λ (z : Shape). same_layer z.layer layer) d.shapes.rects s = in_filter (λ (z : Shape). same_layer z.layer layer) d.shapes.rects s there in
        let on : s.layer ≡ layer = one_layer s.layer layer k.passes in
        let all : Contains (all_port_shapes ports d.shapes.rects ++ obstructions ports d.shapes.rects) s = Contains-permutation (shapes_on Metal1 d.shapes.rects ++ shapes_on Metal2 d.shapes.rects) (all_port_shapes ports d.shapes.rects ++ obstructions ports d.shapes.rects) s (IsPermutation-sym (all_port_shapes ports d.shapes.rects ++ obstructions ports d.shapes.rects) (shapes_on Metal1 d.shapes.rects ++ shapes_on Metal2 d.shapes.rects) metal) (inside s there) in
        elim (Contains-append_cases (all_port_shapes ports d.shapes.rects) (obstructions ports d.shapes.rects) s all) [
          | inl port ↦ at_port layer cell ports d s are own on (kept_from (λ (port : Port). slice_get d.shapes.rects port.shape) ports s port)
          | inr rest ↦ rest_shown layer cell ports d s on rest
        ]

    by : Image (λ (s : Shape). s.rect) (shapes_on layer d.shapes.rects) c.rect → Covers (shown_on layer (macro_drawn cell ports d)) x y
    by i = record { rect = c.rect; listed = subst (λ (r : Rectangle). Contains (shown_on layer (macro_drawn cell ports d)) r) i.is (listed i.of i.listed); holds = c.holds }

pub metal_shown : (cell : Subckt) (ports : List Port) (d : Drawing) → All (IsPort d.shapes.rects) ports → All (IsOfPin cell) ports → AreAllMetal ports d.shapes.rects → All (IsShown d.shapes (macro_drawn cell ports d)) metals
metal_shown cell ports d are own metal =
    all_two (IsShown d.shapes (macro_drawn cell ports d)) Metal1 Metal2
    (all_shown Metal1 cell ports d are own metal (λ s there. Contains-append_left (shapes_on Metal1 d.shapes.rects) (shapes_on Metal2 d.shapes.rects) s there))
    (all_shown Metal2 cell ports d are own metal (λ s there. Contains-append_right (shapes_on Metal1 d.shapes.rects) (shapes_on Metal2 d.shapes.rects) s there))
