-- What holds of the ports and of the size of a drawn cell.
use Rattle.std.specs.Prelude.{ℕ, ◌≡◌, ◌==◌, ℤ, pos, ◌≤ℤ◌, ◌+ℤ◌, ◌-ℤ◌}
use Rattle.std.specs.Prelude.{List, [], ◌∷◌, ◌++◌, filter, filter_map, map, slice_get, get_or, IsPermutation}
use Rattle.std.specs.List.{All, Any, Contains}
use Rattle.box_geom.specs.Layers.{same_layer}
use Rattle.box_geom.specs.Rectangle.{Holds}
use Rattle.box_geom.specs.declared.layer.Layer.{Layer}
use Rattle.box_geom.specs.declared.layer.Layer.TheVariants.{Metal1 as Metal1Layer, Metal2 as Metal2Layer}
use Rattle.box_geom.specs.declared.shape.Label.{Label}
use Rattle.box_geom.specs.declared.shape.Shape.{Shape}
use Rattle.box_geom.specs.declared.shape.Shapes.{Shapes}
use Rattle.cell_num.specs.declared.net.Pins.{Pins}
use Rattle.cell_num.specs.Pins.{IsRail}
use Rattle.channel_route.specs.declared.routing.Routing.{Routing}
use Rattle.channel_route.specs.declared.routing.Trunk.{Trunk}
use Rattle.row_compact.specs.Solution.{x_of}
use Rattle.scmos_rules.specs.declared.rules.Deck.{Deck}
use Rattle.net_extract.specs.Nets.{site_at}
use Rattle.net_extract.specs.declared.piece.Conductor.TheVariants.{Metal1}
use Rattle.net_extract.specs.Labels.{IsNamed}
use Rattle.cell_draw.specs.declared.drawing.Drawing.{Drawing}
use Rattle.cell_draw.specs.declared.layout.Frame.{Frame}
use Rattle.cell_draw.specs.Measures.{HALF_METAL}
use Rattle.cell_draw.specs.Frame.{track_y}
use Rattle.cell_draw.specs.Layouts.{net_no}
use Rattle.cell_draw.specs.Shapes.{box}
use Rattle.lef_write.specs.declared.port.Port.{Port}
use Rattle.lef_write.specs.Ports.{port_shapes, ports_of, obstructions}

-- the shapes of a layer, in the order of the drawing
abbrev pub shapes_on : Layer → List Shape → List Shape
shapes_on layer rects = filter (λ (s : Shape). same_layer s.layer layer) rects

-- a label of this name is on the shape
pub record IsLabelled (labels : List Label) (word : List ℕ) (s : Shape) : Type 0 where
  pub label : Label
  pub listed : Contains labels label
  pub name : label.name ≡ word
  pub layer : label.layer ≡ s.layer
  pub holds : Holds s.rect label.x label.y

-- the ports of a routed cell
abbrev pub ports_in : Pins → Routing → Drawing → List Port
ports_in pins r d = ports_of pins r.trunks d.shapes.rects

-- the pin has exactly one port, and the label of its name is there
pub record HasPort (names : List (List ℕ)) (ports : List Port) (d : Drawing) (n : ℕ) : Type 0 where
  pub shape : Shape
  pub one : port_shapes ports d.shapes.rects (net_no n) ≡ shape ∷ []
  pub named : IsLabelled d.shapes.labels (get_or names n []) shape

abbrev pub IsMetal1 : Shape → Type 0
IsMetal1 s = s.layer ≡ Metal1Layer

-- the pin has these ports, all of metal1, and the label of its name is on the first
pub record HasPorts (names : List (List ℕ)) (ports : List Port) (d : Drawing) (n : ℕ) : Type 0 where
  pub first : Shape
  pub others : List Shape
  pub are : port_shapes ports d.shapes.rects (net_no n) ≡ first ∷ others
  pub metal : All IsMetal1 (first ∷ others)
  pub named : IsLabelled d.shapes.labels (get_or names n []) first

-- the metal1 of a trunk: on its track from its first line to its last, half the width of metal to each side
abbrev pub trunk_metal : Frame → List ℕ → Trunk → Shape
trunk_metal f xs t =
    box Metal1Layer
    (pos (x_of xs t.left) -ℤ pos HALF_METAL)
    (pos (track_y f t.track) -ℤ pos HALF_METAL)
    (pos (x_of xs t.right) +ℤ pos HALF_METAL)
    (pos (track_y f t.track) +ℤ pos HALF_METAL)

-- the trunks of a net, in their order
abbrev pub net_trunks : ℕ → List Trunk → List Trunk
net_trunks n trunks = filter (λ (t : Trunk). t.net.0 == n) trunks

-- a pin that is no rail has a port for each trunk of its net, in their order: the metal1 of that trunk
abbrev pub HasTrunkPorts : Pins → Frame → List ℕ → List Trunk → List Port → Drawing → ℕ → Type 0
HasTrunkPorts pins f xs trunks ports d n =
    (IsRail pins (net_no n) → ⊥)
    → port_shapes ports d.shapes.rects (net_no n) ≡ map (trunk_metal f xs) (net_trunks n trunks)

-- every cell of the shape, which is of metal1, is in a net that the word names
abbrev pub IsOfNet : Deck → List ℕ → Shapes → Shape → Type 0
IsOfNet deck word shapes s = (x y : ℤ) → Holds s.rect x y → IsNamed deck shapes word (site_at Metal1 x y)

-- the pin's ports are of the net that its name names
abbrev pub AreOfNet : Deck → List (List ℕ) → List Port → Drawing → ℕ → Type 0
AreOfNet deck names ports d n =
    All (IsOfNet deck (get_or names n []) d.shapes) (port_shapes ports d.shapes.rects (net_no n))

-- the shapes at all ports
abbrev pub all_port_shapes : List Port → List Shape → List Shape
all_port_shapes ports rects = filter_map (λ (port : Port). slice_get rects port.shape) ports

-- Ports and obstructions are together the metal of the drawing, each shape once.
abbrev pub AreAllMetal : List Port → List Shape → Type 0
AreAllMetal ports rects =
    IsPermutation
    (all_port_shapes ports rects ++ obstructions ports rects)
    (shapes_on Metal1Layer rects ++ shapes_on Metal2Layer rects)

-- no metal1 reaches beyond this width and height
pub record IsWithin (d : Drawing) (s : Shape) : Type 0 where
  pub right : s.rect.x2 ≤ℤ pos d.width
  pub top : s.rect.y2 ≤ℤ pos d.height

-- metal1 reaches to this width and height
pub record IsAtEnd (d : Drawing) (s : Shape) : Type 0 where
  pub right : s.rect.x2 ≡ pos d.width
  pub top : s.rect.y2 ≡ pos d.height

-- the width and the height are the greatest x and the greatest y of metal1
pub record IsSized (d : Drawing) : Type 0 where
  pub most : All (IsWithin d) (shapes_on Metal1Layer d.shapes.rects)
  pub there : Any (IsAtEnd d) (shapes_on Metal1Layer d.shapes.rects)
