-- The limits within which a drawing lies.
use Rattle.std.specs.Prelude.{ℤ, pos, neg_ℤ, ◌≤ℤ◌}
use Rattle.std.specs.List.{All}
use Rattle.box_geom.specs.declared.shape.Shape.{Shape}
use Rattle.box_geom.specs.declared.shape.Label.{Label}
use Rattle.box_geom.specs.declared.shape.Shapes.{Shapes}

-- a place along one axis, in grid units
pub record IsWithin (z : ℤ) : Type 0 where
  pub least : neg_ℤ (pos 10) ≤ℤ z
  pub most : z ≤ℤ pos 1000018

pub record IsShapeWithin (s : Shape) : Type 0 where
  pub x1 : IsWithin s.rect.x1
  pub y1 : IsWithin s.rect.y1
  pub x2 : IsWithin s.rect.x2
  pub y2 : IsWithin s.rect.y2

pub record IsLabelWithin (l : Label) : Type 0 where
  pub x : IsWithin l.x
  pub y : IsWithin l.y

-- all of a drawing lies within the limits
pub record AreWithin (s : Shapes) : Type 0 where
  pub rects : All IsShapeWithin s.rects
  pub labels : All IsLabelWithin s.labels
