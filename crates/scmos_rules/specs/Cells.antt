-- Regions as sets of cells.
use Rattle.std.specs.Prelude.{ℤ, pos, neg_ℤ, ◌≤ℤ◌, ◌↔◌, List}
use Rattle.box_geom.specs.Rectangle.{Rectangle, Covers}

-- the list covers the cells of the set, and no other
pub record AreCells (P : ℤ → ℤ → Type 0) (rs : List Rectangle) : Type 0 where
  pub same : (x y : ℤ) → Covers rs x y ↔ P x y

-- within 1,000,000,000 in x and y
pub record IsInner (x y : ℤ) : Type 0 where
  pub left : neg_ℤ (pos 1000000000) ≤ℤ x
  pub right : x ≤ℤ pos 1000000000
  pub low : neg_ℤ (pos 1000000000) ≤ℤ y
  pub high : y ≤ℤ pos 1000000000

pub record AreInner (rs : List Rectangle) : Type 0 where
  pub inner : (x y : ℤ) → Covers rs x y → IsInner x y
