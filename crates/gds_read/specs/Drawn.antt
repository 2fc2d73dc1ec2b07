-- What a reader of the format expects of boundaries and of labels.
use Rattle.std.specs.Prelude.{◌≡◌, false, ℤ, pos, ◌+ℤ◌, ◌*ℤ◌, ◌≤ℤ◌, ◌<ℤ◌, ◌⊎◌, List, [], ◌∷◌, ◌++◌, map}
use Rattle.std.specs.List.{AllByRecursion, Contains}
use Rattle.box_geom.specs.Rectangle.{Rectangle}
use Rattle.box_geom.specs.Runs.{IsRun}
use Rattle.gds_area.specs.declared.point.Point.{Point}
use Rattle.gds_area.specs.declared.units.Grid.{Grid}
use Rattle.gds_area.specs.Points.{has_slant, closed}
use Rattle.gds_area.specs.EvenOdd.{IsInside, boundary_rectangles}
use Rattle.gds_area.specs.Units.{scaled_by, step_of_grid}

abbrev pub corner : ℤ → ℤ → Point
corner x y = record { x = x; y = y }

abbrev pub round : Point → Point → Point → Point → List Point
round a b c d = a ∷ b ∷ c ∷ d ∷ []

-- from each of four points on, one way round
abbrev pub four_starts : Point → Point → Point → Point → List (List Point)
four_starts a b c d = round a b c d ∷ round b c d a ∷ round c d a b ∷ round d a b c ∷ []

-- from each corner of a rectangle on, either way round, and left open
abbrev pub open_walks : Rectangle → List (List Point)
open_walks r =
    four_starts (corner r.x1 r.y1) (corner r.x1 r.y2) (corner r.x2 r.y2) (corner r.x2 r.y1)
    ++ four_starts (corner r.x1 r.y1) (corner r.x2 r.y1) (corner r.x2 r.y2) (corner r.x1 r.y2)

-- the boundary has no slant, and is the one rectangle
pub record IsRectangleOf (r : Rectangle) (points : List Point) : Type 0 where
  pub upright : has_slant (closed points) ≡ false
  pub one : boundary_rectangles points ≡ r ∷ []

-- left open or taken round to its first corner again
pub record AreWalksOf (r : Rectangle) : Type 0 where
  pub left_open : AllByRecursion (IsRectangleOf r) (open_walks r)
  pub taken_round : AllByRecursion (IsRectangleOf r) (map closed (open_walks r))

-- the greatest number of grid units that is not above a coordinate of the file
pub record IsFloor (grid : Grid) (value units : ℤ) : Type 0 where
  pub not_above : (units *ℤ step_of_grid grid) ≤ℤ scaled_by grid value
  pub greatest : scaled_by grid value <ℤ ((units +ℤ pos 1) *ℤ step_of_grid grid)

-- some point of the list has this height
pub record HasHeight (points : List Point) (y : ℤ) : Type 0 where
  pub point : Point
  pub listed : Contains points point
  pub is : point.y ≡ y

-- From one height of the points to the next one, and in its lowest row a run of the cells inside: all
-- from x1 to before x2 are inside, the one before and the one after are not.
pub record IsRunOf (points : List Point) (r : Rectangle) : Type 0 where
  pub low : HasHeight points r.y1
  pub high : HasHeight points r.y2
  pub order : r.y1 <ℤ r.y2
  pub neighbours : (p : Point) → Contains points p → r.y1 <ℤ p.y → p.y <ℤ r.y2 → ⊥
  pub run : IsRun (λ x. IsInside points x r.y1) r.x1 r.x2 r.x1

-- bottom up, and left to right
abbrev pub IsBefore : Rectangle → Rectangle → Type 0
IsBefore a b = (a.y2 ≤ℤ b.y1) ⊎ ((a.y1 ≡ b.y1) × (a.x2 <ℤ b.x1))
