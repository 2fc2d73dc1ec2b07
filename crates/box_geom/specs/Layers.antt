-- What the shapes of one layer cover. How a region is cut into rectangles plays no part.
use Rattle.std.specs.Prelude.{ℕ, Bool, ◌==◌, List, map}
use Rattle.std.specs.List.{All, filter}
use Rattle.box_geom.specs.Rectangle.{Rectangle, IsRectangle}
use Rattle.box_geom.specs.declared.shape.Shape.{Shape}
use Rattle.box_geom.specs.declared.layer.Layer.{Layer}
use Rattle.box_geom.specs.declared.layer.Layer.TheVariants.{Well, Active, PSelect, NSelect}
use Rattle.box_geom.specs.declared.layer.Layer.TheVariants.{Poly, Contact, Metal1, Via, Metal2}

-- the place of a layer in the list of layers
abbrev pub layer_no : Layer → ℕ
layer_no Well = 0
layer_no Active = 1
layer_no PSelect = 2
layer_no NSelect = 3
layer_no Poly = 4
layer_no Contact = 5
layer_no Metal1 = 6
layer_no Via = 7
layer_no Metal2 = 8

abbrev pub same_layer : Layer → Layer → Bool
same_layer a b = layer_no a == layer_no b

-- The rectangles of a layer: it covers the cells that `Covers` tells of them.
abbrev pub rects_on : Layer → List Shape → List Rectangle
rects_on layer shapes = map (λ (s : Shape). s.rect) (filter (λ (s : Shape). same_layer s.layer layer) shapes)

-- the sides of all shapes ascend and lie within the limits
pub record AreWithinLimits (shapes : List Shape) : Type 0 where
  pub all : All (λ (s : Shape). IsRectangle s.rect) shapes
  pub on : (layer : Layer) → All IsRectangle (rects_on layer shapes)
