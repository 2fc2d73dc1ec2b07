-- Where pieces of conductor begin: at a side of some shape, from the left and from below.
use Rattle.std.specs.Prelude.{ℤ, ◌≤◌, List, length}
use Rattle.std.specs.List.{Contains}
use Rattle.box_geom.specs.Rectangle.{Rectangle}
use Rattle.box_geom.specs.declared.shape.Shape.{Shape}
use Rattle.net_extract.specs.declared.piece.Piece.{Piece}

-- the sides of a rectangle are listed
pub record HasSides (xs ys : List ℤ) (r : Rectangle) : Type 0 where
  pub left : Contains xs r.x1
  pub right : Contains xs r.x2
  pub low : Contains ys r.y1
  pub high : Contains ys r.y2

pub record HasCorner (xs ys : List ℤ) (p : Piece) : Type 0 where
  pub left : Contains xs p.left
  pub low : Contains ys p.low

-- all sides of 10,000 rectangles
pub record AreSides (xs ys : List ℤ) : Type 0 where
  pub across : length xs ≤ 20000
  pub upward : length ys ≤ 20000

-- the shapes, however many, have few sides
pub record HaveFewSides (s : List Shape) : Type 0 where
  pub xs : List ℤ
  pub ys : List ℤ
  pub few : AreSides xs ys
  pub sides : (z : Shape) → Contains s z → HasSides xs ys z.rect

-- the pieces, however many, have few corners
pub record HaveFewCorners (ps : List Piece) : Type 0 where
  pub xs : List ℤ
  pub ys : List ℤ
  pub few : AreSides xs ys
  pub corners : (p : Piece) → Contains ps p → HasCorner xs ys p
