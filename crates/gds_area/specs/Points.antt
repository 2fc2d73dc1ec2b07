-- The points of a boundary or a path, in file units, and the steps from each point to the next.
use Rattle.std.specs.Prelude.{ℕ, ◌+◌, ◌*◌, ◌/◌, ◌&&◌, not, Bool, ℤ, List, [], ◌∷◌, ◌++◌, length, take, drop, map}
use Rattle.std.specs.Int.{w32, from_be_bytes, cast_signed}
use Rattle.std.specs.List.{range_with_len, list_any}
use Rattle.std.specs.Ordering.{int_eq}
use Rattle.gds_area.specs.declared.point.Point.{Point}

-- a four-byte integer in two's complement, the high byte first
abbrev pub signed_at : ℕ → List ℕ → ℤ
signed_at at content = cast_signed w32 (from_be_bytes w32 (take 4 (drop at content)))

abbrev pub point_at : ℕ → List ℕ → Point
point_at at xy = record { x = signed_at at xy; y = signed_at (at + 4) xy }

-- each point has eight bytes
abbrev pub first_points : ℕ → List ℕ → List Point
first_points n xy = map (λ i. point_at (8 * i) xy) (range_with_len 0 n)

abbrev pub points_of : List ℕ → List Point
points_of xy = first_points (length xy / 8) xy

-- from one point to the next
pub record Step : Type 0 where
  pub from : Point
  pub to : Point

abbrev pub steps_from : Point → List Point → List Step
steps_from a [] = []
steps_from a (b ∷ bs) = record { from = a; to = b } ∷ steps_from b bs

abbrev pub steps : List Point → List Step
steps [] = []
steps (a ∷ bs) = steps_from a bs

-- the two points differ in both coordinates
abbrev pub is_slanted : Step → Bool
is_slanted s = not (int_eq s.from.x s.to.x) && not (int_eq s.from.y s.to.y)

abbrev pub has_slant : List Point → Bool
has_slant points = list_any is_slanted (steps points)

-- round to the first point again
abbrev pub closed : List Point → List Point
closed [] = []
closed (a ∷ bs) = a ∷ (bs ++ a ∷ [])
