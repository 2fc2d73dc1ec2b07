-- Regions: sets of cells as rectangles in horizontal bands.
use Rattle.std.specs.Prelude.{◌≡◌, ℕ, ℤ, pos, neg_ℤ, ◌≤ℤ◌, ◌<ℤ◌, ◌↔◌, ◌⊎◌, List}
use Rattle.std.specs.List.{All, AllPairs}
use Rattle.box_geom.specs.Rectangle.{Rectangle, IsProper, Covers}
use Rattle.box_geom.specs.Near.{Near}

-- a rectangle of a region: its sides ascend, and none lies beyond 2,000,000,000
pub record IsBlock (r : Rectangle) : Type 0 where
  pub proper : IsProper r
  pub left : neg_ℤ (pos 2000000000) ≤ℤ r.x1
  pub right : r.x2 ≤ℤ pos 2000000000
  pub low : neg_ℤ (pos 2000000000) ≤ℤ r.y1
  pub top : r.y2 ≤ℤ pos 2000000000

-- b lies in a later band than a, or in the same band behind a, with room between them
abbrev pub Follows : Rectangle → Rectangle → Type 0
Follows a b = (a.y2 ≤ℤ b.y1) ⊎ ((a.y1 ≡ b.y1) × (a.y2 ≡ b.y2) × (a.x2 <ℤ b.x1))

-- the rectangles of bands that ascend without overlap; so each is as wide as the cells of its rows hang together
pub record AreBanded (bs : List Rectangle) : Type 0 where
  pub blocks : All IsBlock bs
  pub order : AllPairs Follows bs

-- the two lists cover the same cells
abbrev pub SameCells : List Rectangle → List Rectangle → Type 0
SameCells rs ss = (x y : ℤ) → Covers rs x y ↔ Covers ss x y

-- the cell lies within the limits of regions
pub record OnPlane (x y : ℤ) : Type 0 where
  pub left : neg_ℤ (pos 2000000000) ≤ℤ x
  pub right : x <ℤ pos 2000000000
  pub low : neg_ℤ (pos 2000000000) ≤ℤ y
  pub high : y <ℤ pos 2000000000

-- some cell that the list covers lies within d
pub record IsNear (rs : List Rectangle) (d : ℕ) (x y : ℤ) : Type 0 where
  pub s : ℤ
  pub t : ℤ
  pub near : Near d x y s t
  pub covered : Covers rs s t

-- by y, then x, the cell (x, y) does not stand behind (s, t)
pub record NotAfter (x y s t : ℤ) : Type 0 where
  pub row : y ≤ℤ t
  pub column : t ≤ℤ y → x ≤ℤ s

-- (x, y) is the first cell of the set by y, then x
pub record IsFirst (P : ℤ → ℤ → Type 0) (x y : ℤ) : Type 0 where
  pub covered : P x y
  pub first : (s t : ℤ) → P s t → NotAfter x y s t

-- the set has no cell
abbrev pub IsEmpty : (ℤ → ℤ → Type 0) → Type 0
IsEmpty P = (x y : ℤ) → P x y → ⊥

-- the list covers no cell
abbrev pub CoversNone : List Rectangle → Type 0
CoversNone rs = IsEmpty (Covers rs)

-- the first list covers the cell, and the second one does not
abbrev pub Bare : List Rectangle → List Rectangle → ℤ → ℤ → Type 0
Bare first second x y = Covers first x y × (Covers second x y → ⊥)

-- a way of at most 1,000
pub record IsSmall (d : ℤ) : Type 0 where
  pub least : neg_ℤ (pos 1000) ≤ℤ d
  pub most : d ≤ℤ pos 1000
