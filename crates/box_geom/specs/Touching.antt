-- How two rectangles lie to each other, by the cells that they hold.
use Rattle.std.specs.Prelude.{ℕ, ℤ, pos, ◌+ℤ◌, ◌≤ℤ◌, ◌<ℤ◌, ◌≡◌, ◌⊎◌}
use Rattle.box_geom.specs.Rectangle.{Rectangle, Holds}

pub record Cell : Type 0 where
  pub x : ℤ
  pub y : ℤ

-- two cells share an edge
pub data Edge (a b : Cell) : Type 0 where
  to_right : b.x ≡ a.x +ℤ pos 1 → b.y ≡ a.y → Edge a b
  to_left : a.x ≡ b.x +ℤ pos 1 → b.y ≡ a.y → Edge a b
  upward : b.x ≡ a.x → b.y ≡ a.y +ℤ pos 1 → Edge a b
  downward : b.x ≡ a.x → a.y ≡ b.y +ℤ pos 1 → Edge a b

-- The rectangles share a cell or a piece of an edge: a cell of one is a cell of the other, or shares an
-- edge with one.
pub record Touch (a b : Rectangle) : Type 0 where
  pub one : Cell
  pub other : Cell
  pub in_a : Holds a one.x one.y
  pub in_b : Holds b other.x other.y
  pub meet : (one ≡ other) ⊎ Edge one other

-- the rectangles share a cell
pub record Overlap (a b : Rectangle) : Type 0 where
  pub x : ℤ
  pub y : ℤ
  pub in_a : Holds a x y
  pub in_b : Holds b x y

-- a row of cells goes through both
pub record ShareRow (a b : Rectangle) : Type 0 where
  pub y : ℤ
  pub a_low : a.y1 ≤ℤ y
  pub a_high : y <ℤ a.y2
  pub b_low : b.y1 ≤ℤ y
  pub b_high : y <ℤ b.y2

-- a column of cells goes through both
pub record ShareColumn (a b : Rectangle) : Type 0 where
  pub x : ℤ
  pub a_left : a.x1 ≤ℤ x
  pub a_right : x <ℤ a.x2
  pub b_left : b.x1 ≤ℤ x
  pub b_right : x <ℤ b.x2

-- along a row, one begins d cells behind the end of the other
pub record FaceAcross (a b : Rectangle) (d : ℕ) : Type 0 where
  pub row : ShareRow a b
  pub gap : (b.x1 ≡ a.x2 +ℤ pos d) ⊎ (a.x1 ≡ b.x2 +ℤ pos d)

-- along a column, one begins d cells behind the end of the other
pub record FaceUpward (a b : Rectangle) (d : ℕ) : Type 0 where
  pub column : ShareColumn a b
  pub gap : (b.y1 ≡ a.y2 +ℤ pos d) ⊎ (a.y1 ≡ b.y2 +ℤ pos d)

-- edges of the two face each other at the distance d
abbrev pub Face : Rectangle → Rectangle → ℕ → Type 0
Face a b d = FaceAcross a b d ⊎ FaceUpward a b d

-- no row and no column goes through both
pub record FaceInNeither (a b : Rectangle) : Type 0 where
  pub row : ShareRow a b → ⊥
  pub column : ShareColumn a b → ⊥
