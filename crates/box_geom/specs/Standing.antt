-- Which rectangles of a list a row goes through, from row to row upward.
use Rattle.std.specs.Prelude.{◌≡◌, ℤ, ◌≤ℤ◌, ◌<ℤ◌, List, ◌++◌, Bool, int_lt}
use Rattle.std.specs.List.{All, AllPairs, filter}
use Rattle.box_geom.specs.Rectangle.{Rectangle}
use Rattle.box_geom.specs.Comparisons.{within}

-- the row y goes through the rectangle
abbrev pub stands_at : ℤ → Rectangle → Bool
stands_at y r = within r.y1 r.y2 y

-- the rectangle ends above the row y
abbrev pub ends_above : ℤ → Rectangle → Bool
ends_above y r = int_lt y r.y2

-- in the order of their lower sides
abbrev pub AreRising : List Rectangle → Type 0
AreRising rs = AllPairs (λ (a b : Rectangle). a.y1 ≤ℤ b.y1) rs

-- Going up to the row y: some of rest begin, and are added where they stand; those that ended are dropped.
pub record IsAdvanced (rest standing : List Rectangle) (y : ℤ) (new after : List Rectangle) : Type 0 where
  pub begun : List Rectangle
  pub whole : rest ≡ begun ++ after
  pub low : All (λ (r : Rectangle). r.y1 ≤ℤ y) begun
  pub high : All (λ (r : Rectangle). y <ℤ r.y1) after
  pub made : new ≡ filter (ends_above y) standing ++ filter (stands_at y) begun

-- Below the row y some rectangles of the list began, and the others are rest. Of those that began, the standing
-- ones are those that stand at y or above.
pub record IsUpTo (all rest standing : List Rectangle) (y : ℤ) : Type 0 where
  pub old : List Rectangle
  pub whole : all ≡ old ++ rest
  pub begun : All (λ (r : Rectangle). r.y1 ≤ℤ y) old
  pub kept : (z : ℤ) → y ≤ℤ z → filter (ends_above z) standing ≡ filter (stands_at z) old
