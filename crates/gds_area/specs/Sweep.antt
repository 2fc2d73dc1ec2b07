-- What the functions give that go over a boundary row by row.
use Rattle.std.specs.Prelude.{◌≡◌, ℤ, List, [], ◌∷◌, ◌++◌, map, Option, Some, None, if◌then◌else◌}
use Rattle.std.specs.List.{flat_map}
use Rattle.std.specs.Ordering.{int_eq}
use Rattle.box_geom.specs.Rectangle.{Rectangle}
use Rattle.gds_area.specs.declared.even_odd.SideEnd.{SideEnd}
use Rattle.gds_area.specs.declared.area.Area.{Area}
use Rattle.gds_area.specs.Areas.{area_of}
use Rattle.gds_area.specs.Points.{Step}
use Rattle.gds_area.specs.EvenOdd.{odd_ones, runs}

abbrev pub two_ends : Step → List SideEnd
two_ends s = record { y = s.from.y; x = s.from.x } ∷ record { y = s.to.y; x = s.from.x } ∷ []

abbrev pub ends_of : List Step → List SideEnd
ends_of steps = flat_map two_ends steps

-- neighbours that are equal fall out in pairs; one may wait for its like
abbrev pub unpaired : Option ℤ → List ℤ → List ℤ
unpaired None [] = []
unpaired (Some c) [] = c ∷ []
unpaired None (x ∷ xs) = unpaired (Some x) xs
unpaired (Some c) (x ∷ xs) = if int_eq c x then unpaired None xs else c ∷ unpaired (Some x) xs

-- the runs of the rows from one end's height to that of the next one
abbrev pub row_areas : SideEnd → SideEnd → List ℤ → List Area
row_areas row end xs = map area_of (runs row.y end.y (odd_ones xs))

-- one number more, whatever follows it
pub record PairsOff (old : List ℤ) (waiting : Option ℤ) (x : ℤ) (new : List ℤ) (now : Option ℤ) : Type 0 where
  pub more : (rest : List ℤ) → new ++ unpaired now rest ≡ old ++ unpaired waiting (x ∷ rest)

-- Ends in order of their heights, with the height reached and the x values of all ends up to it.
abbrev pub swept : SideEnd → List ℤ → List SideEnd → List Rectangle
swept row xs [] = []
swept row xs (e ∷ es) =
    if int_eq e.y row.y
    then swept row (xs ++ e.x ∷ []) es
    else runs row.y e.y (odd_ones xs) ++ swept e (odd_ones xs ++ e.x ∷ []) es

abbrev pub swept_all : List SideEnd → List Rectangle
swept_all [] = []
swept_all (e ∷ es) = swept e [] (e ∷ es)
