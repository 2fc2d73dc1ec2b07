-- The areas of a path, in halves of a file unit, so that half its width is a whole number of them.
use Rattle.std.specs.Prelude.{ℕ, ◌==◌, ◌&&◌, Bool, ℤ, pos, ◌+ℤ◌, ◌-ℤ◌, ◌*ℤ◌, int_lt, unsigned_abs}
use Rattle.std.specs.Prelude.{List, [], ◌∷◌, length, Option, Some, None, if◌then◌else◌}
use Rattle.std.specs.List.{dedup}
use Rattle.std.specs.Ordering.{int_eq}
use Rattle.gds_area.specs.declared.point.Point.{Point}
use Rattle.gds_area.specs.declared.area.Span.{Span}
use Rattle.gds_area.specs.declared.area.Area.{Area}
use Rattle.gds_area.specs.Points.{signed_at}

abbrev pub same_point : Point → Point → Bool
same_point a b = int_eq a.x b.x && int_eq a.y b.y

-- neighbouring equal points are taken once
abbrev pub thinned : List Point → List Point
thinned points = dedup same_point points

-- the data of WIDTH; a negative width counts as its absolute value, and none as 0
abbrev pub width_of : List ℕ → ℕ
width_of content = if length content == 4 then unsigned_abs (signed_at 0 content) else 0

-- from one coordinate to a higher one, and past each of them
unfoldable pub stretch : ℕ → ℕ → ℤ → ℤ → Span
stretch before behind low high = record { low = (pos 2 *ℤ low) -ℤ pos before; high = (pos 2 *ℤ high) +ℤ pos behind }

-- half the width to both sides
abbrev pub broad : ℕ → ℤ → Span
broad half c = stretch half half c c

-- from one coordinate to another
abbrev pub long : ℕ → ℕ → ℤ → ℤ → Span
long past_a past_b a b = if int_lt a b then stretch past_a past_b a b else stretch past_b past_a b a

-- a flat segment or an upright one
unfoldable pub segment : ℕ → ℕ → ℕ → Point → Point → Area
segment half past_a past_b a b =
    if int_eq a.y b.y
    then record { across = long past_a past_b a.x b.x; upward = broad half a.y }
    else record { across = broad half a.x; upward = long past_a past_b a.y b.y }

-- A segment goes half the width past an inner point, and at the two outer points as far as the ends do.
abbrev pub past_second : ℕ → ℕ → List Point → ℕ
past_second half ends [] = ends
past_second half ends (p ∷ ps) = half

abbrev pub segments : ℕ → ℕ → ℕ → List Point → List Area
segments half ends past [] = []
segments half ends past (a ∷ []) = []
segments half ends past (a ∷ b ∷ more) =
    segment half past (past_second half ends more) a b ∷ segments half ends half (b ∷ more)

abbrev pub all_segments : ℕ → ℕ → List Point → List Area
all_segments half ends points = segments half ends ends points

-- how far the ends go: not past the outer points at type 0, half the width at type 2
abbrev pub past_ends : ℕ → ℕ → Option ℕ
past_ends half form = if form == 0 then Some 0 else if form == 2 then Some half else None

-- a path of width 0 covers nothing
abbrev pub path_areas : ℕ → ℕ → List Point → List Area
path_areas half ends points = if half == 0 then [] else all_segments half ends (thinned points)
