-- The metal1 shapes of a layout, and their places.
use Rattle.std.proofs.Common.{ℕ, zero, suc, ◌≡◌, ◌+◌, ◌-◌, List, [], ◌∷◌, ◌++◌, length, map, refl, sym, ap, ◌∙◌, inl, inr, length-append, arith}
use Rattle.std.specs.Prelude.{Some, filter_map, flat_map, slice_get, option_and_then}
use Rattle.std.specs.List.{enumerate_from}
use Rattle.std.proofs.lemmas.Bool.{cases_Bool}
use Rattle.std.proofs.lemmas.List.{length-map}
use Rattle.std.proofs.lemmas.List.Elements.{filter-append}
use Rattle.box_geom.specs.declared.layer.Layer.{Layer}
use Rattle.box_geom.specs.declared.layer.Layer.TheVariants.{Metal1}
use Rattle.box_geom.specs.declared.shape.Shape.{Shape}
use Rattle.box_geom.specs.Layers.{same_layer}
use Rattle.cell_draw.specs.declared.layout.Bar.{Bar}
use Rattle.cell_draw.specs.declared.layout.Layout.{Layout}
use Rattle.cell_draw.specs.Shapes.{gnd_rail, vdd_rail, frame_shapes, finger, contact_shapes, gate_shapes, bar_metal, via_shapes, bar_shapes, shapes_of}
use Rattle.lef_write.specs.Drawn.{shapes_on}
use Rattle.lef_write.specs.Ports.{place_on, places_on, last_ones}
use Rattle.lef_write.proofs.PortPlaces.{drop_get}

-- ---- the shape at a place

first_is : (full : List Shape) (x : Shape) (n : ℕ) (places : List ℕ) (xs : List Shape) (i : ℕ) → slice_get full n ≡ Some x → ((j : ℕ) → option_and_then (slice_get full) (slice_get places j) ≡ slice_get xs j) → option_and_then (slice_get full) (slice_get (n ∷ places) i) ≡ slice_get (x ∷ xs) i
first_is full x n places xs zero e rest = e
first_is full x n places xs (suc i) e rest = rest i

from_place : (layer : Layer) (full xs : List Shape) (n i : ℕ) → ((k : ℕ) → slice_get full (n + k) ≡ slice_get xs k) → option_and_then (slice_get full) (slice_get (filter_map (place_on layer) (enumerate_from n xs)) i) ≡ slice_get (shapes_on layer xs) i
from_place layer full [] n i same = refl
from_place layer full (x ∷ xs) n i same =
    let here : n + 0 ≡ n = omega arith in
    let behind : (k : ℕ) → slice_get full (n + 1 + k) ≡ slice_get xs k = λ k. let e : n + 1 + k ≡ n + suc k = omega arith in ap (λ m. slice_get full m) e ∙ same (suc k) in
    elim (cases_Bool (same_layer x.layer layer)) [
      | inl on ↦ rw on (first_is full x n (filter_map (place_on layer) (enumerate_from (n + 1) xs)) (shapes_on layer xs) i (sym (ap (λ m. slice_get full m) here) ∙ same 0) (λ j. from_place layer full xs (n + 1) j behind))
      | inr off ↦ rw off (from_place layer full xs (n + 1) i behind)
    ]

-- at the places of a layer stand its shapes, in order
pub at_place : (layer : Layer) (rects : List Shape) (i : ℕ) → option_and_then (slice_get rects) (slice_get (places_on layer rects) i) ≡ slice_get (shapes_on layer rects) i
at_place layer rects i = from_place layer rects rects 0 i (λ k. let e : 0 + k ≡ k = omega arith in ap (λ m. slice_get rects m) e)

pub as_many : (layer : Layer) (xs : List Shape) (n : ℕ) → length (filter_map (place_on layer) (enumerate_from n xs)) ≡ length (shapes_on layer xs)
as_many layer [] n = refl
as_many layer (x ∷ xs) n = elim (cases_Bool (same_layer x.layer layer)) [
  | inl on ↦ rw on (ap (λ m. suc m) (as_many layer xs (n + 1)))
  | inr off ↦ rw off (as_many layer xs (n + 1))
]

-- ---- metal1 of a layout

no_vias : (y : ℕ) (vias : List ℕ) → shapes_on Metal1 (flat_map (via_shapes y) vias) ≡ []
no_vias y [] = refl
no_vias y (x ∷ xs) = no_vias y xs

bars_metal : (bars : List Bar) → shapes_on Metal1 (flat_map bar_shapes bars) ≡ map bar_metal bars
bars_metal [] = refl
bars_metal (b ∷ bs) = filter-append (λ (s : Shape). same_layer s.layer Metal1) (bar_shapes b) (flat_map bar_shapes bs) ∙ rw (no_vias b.y b.vias, bars_metal bs) refl

-- fingers, contacts and gates
abbrev pub inner_shapes : Layout → List Shape
inner_shapes l = flat_map (λ s. finger l.frame s ∷ []) l.strips ++ flat_map (contact_shapes l.frame) l.contacts ++ flat_map (gate_shapes l.frame) l.gates

-- the metal1 shapes before the trunks
abbrev pub front : Layout → List Shape
front l = gnd_rail l.frame ∷ vdd_rail l.frame ∷ shapes_on Metal1 (inner_shapes l)

abbrev pub places : Layout → List ℕ
places l = places_on Metal1 (shapes_of l)

-- the rails come first, and the trunks last
pub metal_of : (l : Layout) → shapes_on Metal1 (shapes_of l) ≡ front l ++ map bar_metal l.bars
metal_of l = filter-append (λ (s : Shape). same_layer s.layer Metal1) (frame_shapes l.frame ++ flat_map (λ s. finger l.frame s ∷ []) l.strips ++ flat_map (contact_shapes l.frame) l.contacts ++ flat_map (gate_shapes l.frame) l.gates) (flat_map bar_shapes l.bars) ∙ rw (bars_metal l.bars) refl

-- ---- the last of them

get_behind : {X : Type 0} (xs ys : List X) (i : ℕ) → slice_get (xs ++ ys) (length xs + i) ≡ slice_get ys i
get_behind [] ys i = let e : 0 + i ≡ i = omega arith in ap (λ m. slice_get ys m) e
get_behind (x ∷ xs) ys i = let e : length (x ∷ xs) + i ≡ suc (length xs + i) = omega arith in ap (λ m. slice_get (x ∷ (xs ++ ys)) m) e ∙ get_behind xs ys i

-- at the last places of metal1 stand the trunks
pub at_last : (l : Layout) (i : ℕ) → option_and_then (slice_get (shapes_of l)) (slice_get (last_ones (length l.bars) (places l)) i) ≡ slice_get (map bar_metal l.bars) i
at_last l i =
    let count : length (places l) ≡ length (shapes_on Metal1 (shapes_of l)) = as_many Metal1 (shapes_of l) 0 in
    let whole : length (shapes_on Metal1 (shapes_of l)) ≡ length (front l) + length (map bar_metal l.bars) = ap length (metal_of l) ∙ length-append (front l) (map bar_metal l.bars) in
    let at : length (places l) - length l.bars + i ≡ length (front l) + i = omega (arith, count, whole, length-map l.bars bar_metal) in
    ap (λ o. option_and_then (slice_get (shapes_of l)) o) (drop_get (length (places l) - length l.bars) (places l) i)
    ∙ (at_place Metal1 (shapes_of l) (length (places l) - length l.bars + i)
    ∙ (ap (λ xs. slice_get xs (length (places l) - length l.bars + i)) (metal_of l)
    ∙ (ap (λ m. slice_get (front l ++ map bar_metal l.bars) m) at
    ∙ get_behind (front l) (map bar_metal l.bars) i)))
