-- Rectangles of the plane of unit cells. A cell goes by its lower left corner.
use Rattle.std.specs.Prelude.{List, ℤ, pos, neg_ℤ, ◌≤ℤ◌, ◌<ℤ◌}
use Rattle.std.specs.List.{Contains}

-- the four sides of a rectangle
pub record Rectangle : Type 0 where
  pub x1 : ℤ
  pub y1 : ℤ
  pub x2 : ℤ
  pub y2 : ℤ

-- the sides ascend: some cell lies in the rectangle
pub record IsProper (r : Rectangle) : Type 0 where
  pub wide : r.x1 <ℤ r.x2
  pub high : r.y1 <ℤ r.y2

-- the sides ascend, and none lies beyond the limit of 1,000,000,000
pub record IsRectangle (r : Rectangle) : Type 0 where
  pub proper : IsProper r
  pub left : neg_ℤ (pos 1000000000) ≤ℤ r.x1
  pub right : r.x2 ≤ℤ pos 1000000000
  pub low : neg_ℤ (pos 1000000000) ≤ℤ r.y1
  pub top : r.y2 ≤ℤ pos 1000000000

-- the cell (x, y) lies in the rectangle
pub record Holds (r : Rectangle) (x y : ℤ) : Type 0 where
  pub left : r.x1 ≤ℤ x
  pub right : x <ℤ r.x2
  pub low : r.y1 ≤ℤ y
  pub high : y <ℤ r.y2

-- some rectangle of the list holds the cell
pub record Covers (rs : List Rectangle) (x y : ℤ) : Type 0 where
  pub rect : Rectangle
  pub listed : Contains rs rect
  pub holds : Holds rect x y
