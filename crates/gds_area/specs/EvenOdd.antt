-- The cells of a boundary by the even-odd rule, as rectangles in file units. A cell is named by its lower
-- left corner; a side that is not upright crosses no row of cells.
use Rattle.std.specs.Prelude.{◌≡◌, ◌%◌, ◌&&◌, ◌||◌, Bool, ℤ, int_le, int_lt, List, [], ◌∷◌, ◌++◌, map, if◌then◌else◌}
use Rattle.std.specs.List.{filter, count_by}
use Rattle.box_geom.specs.Rectangle.{Rectangle}
use Rattle.gds_area.specs.declared.point.Point.{Point}
use Rattle.gds_area.specs.Points.{Step, steps, closed}

-- a step crosses the row of cells from y up: one end lies at y or below it, the other above
abbrev pub crosses : ℤ → Step → Bool
crosses y s = (int_le s.from.y y && int_lt y s.to.y) || (int_le s.to.y y && int_lt y s.from.y)

-- Where a line from the cell to the left crosses an odd number of sides, the cell is inside.
abbrev pub is_crossed : ℤ → ℤ → Step → Bool
is_crossed x y s = crosses y s && int_le s.from.x x

abbrev pub IsInside : List Point → ℤ → ℤ → Type 0
IsInside points x y = count_by (is_crossed x y) (steps (closed points)) % 2 ≡ 1

-- In an ascending list: the number is put in, or taken out where it is there.
abbrev pub toggled : ℤ → List ℤ → List ℤ
toggled x [] = x ∷ []
toggled x (z ∷ zs) = if int_lt x z then x ∷ z ∷ zs else if int_lt z x then z ∷ toggled x zs else zs

-- the numbers that a list has an odd number of times, ascending
unfoldable pub odd_ones : List ℤ → List ℤ
odd_ones [] = []
odd_ones (x ∷ xs) = toggled x (odd_ones xs)

-- where an odd number of sides crosses a row
abbrev pub crossings : ℤ → List Step → List ℤ
crossings y sides = odd_ones (map (λ (s : Step). s.from.x) (filter (crosses y) sides))

-- In an ascending list: the number is put in, unless it is there.
abbrev pub with_height : ℤ → List ℤ → List ℤ
with_height y [] = y ∷ []
with_height y (z ∷ zs) = if int_lt y z then y ∷ z ∷ zs else if int_lt z y then z ∷ with_height y zs else z ∷ zs

-- the different y values of the points, ascending
abbrev pub heights : List Point → List ℤ
heights [] = []
heights (p ∷ ps) = with_height p.y (heights ps)

-- from each odd crossing to the next one
abbrev pub runs : ℤ → ℤ → List ℤ → List Rectangle
runs low high [] = []
runs low high (a ∷ []) = []
runs low high (a ∷ b ∷ more) = record { x1 = a; y1 = low; x2 = b; y2 = high } ∷ runs low high more

-- the runs between each height and the next one
abbrev pub bands : (ℤ → List ℤ) → List ℤ → List Rectangle
bands row [] = []
bands row (y ∷ []) = []
bands row (y ∷ z ∷ more) = runs y z (row y) ++ bands row (z ∷ more)

-- what lies inside a walk, bottom up, and left to right
abbrev pub inside_walk : List Point → List Rectangle
inside_walk walk = bands (λ y. crossings y (steps walk)) (heights walk)

abbrev pub boundary_rectangles : List Point → List Rectangle
boundary_rectangles points = inside_walk (closed points)
