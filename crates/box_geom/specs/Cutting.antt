-- The sides of all rectangles cut the plane into slots, in which every layer is alike.
use Rattle.std.specs.Prelude.{ℤ, ◌≤ℤ◌, ◌<ℤ◌, ◌↔◌, List, [], ◌∷◌}
use Rattle.std.specs.List.{Contains, flat_map, AllPairs}
use Rattle.box_geom.specs.Rectangle.{Rectangle, Covers}
use Rattle.box_geom.specs.Layers.{rects_on}
use Rattle.box_geom.specs.declared.shape.Shape.{Shape}
use Rattle.box_geom.specs.declared.layer.Layer.{Layer}
use Rattle.box_geom.specs.declared.cuts.Axis.{Axis}
use Rattle.box_geom.specs.declared.cuts.Axis.TheVariants.{X, Y}

-- the two sides of a rectangle across an axis
abbrev pub ends_of : Axis → Rectangle → List ℤ
ends_of X r = r.x1 ∷ r.x2 ∷ []
ends_of Y r = r.y1 ∷ r.y2 ∷ []

-- the values of all sides along an axis, in the order of the shapes
abbrev pub sides : Axis → List Shape → List ℤ
sides axis shapes = flat_map (λ s. ends_of axis s.rect) shapes

-- the values of a list, ascending, each once
pub record AreCuts (values cuts : List ℤ) : Type 0 where
  pub ascending : AllPairs (λ a b. a <ℤ b) cuts
  pub same : (z : ℤ) → Contains cuts z ↔ Contains values z

-- two places lie between the same neighbouring cuts
abbrev pub SameSlot : List ℤ → ℤ → ℤ → Type 0
SameSlot cuts x s = (z : ℤ) → Contains cuts z → (z ≤ℤ x ↔ z ≤ℤ s)

-- two cells between the same neighbouring cuts are covered alike on every layer
pub record AreAlike (shapes : List Shape) (xs ys : List ℤ) : Type 0 where
  pub alike : (layer : Layer) (x s y t : ℤ) → SameSlot xs x s → SameSlot ys y t →
      Covers (rects_on layer shapes) x y ↔ Covers (rects_on layer shapes) s t
