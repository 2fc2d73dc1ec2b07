-- From coordinates of a file to grid units.
use Rattle.std.specs.Prelude.{◌*◌, ◌==◌, ◌||◌, ℤ, pos, neg_ℤ, ◌*ℤ◌, ◌≤ℤ◌, ◌<ℤ◌, int_lt, unsigned_abs}
use Rattle.std.specs.Prelude.{Option, Some, None, if◌then◌else◌}
use Rattle.std.specs.Int.{int_div_euclid, int_rem_euclid}
use Rattle.gds_area.specs.declared.units.Grid.{Grid}
use Rattle.gds_area.specs.declared.units.Ends.{Ends}

-- no coordinate of a drawing lies beyond the limit
abbrev pub limited_to_grid : ℤ → Option ℤ
limited_to_grid units =
    if int_lt units (neg_ℤ (pos 1000000000)) || int_lt (pos 1000000000) units then None else Some units

-- a coordinate in picometres
abbrev pub scaled_by : Grid → ℤ → ℤ
scaled_by grid value = value *ℤ pos grid.picometres

-- half a lambda in picometres
abbrev pub step_of_grid : Grid → ℤ
step_of_grid grid = pos (500 * grid.lambda_nm)

-- two grid units in picometres: by these a coordinate in halves of a file unit is divided
abbrev pub two_steps : Grid → ℤ
two_steps grid = pos (1000 * grid.lambda_nm)

-- a coordinate in halves of a file unit as a whole number of grid units
abbrev pub whole_units_of : Grid → ℤ → Option ℤ
whole_units_of grid value =
    if unsigned_abs (int_rem_euclid (scaled_by grid value) (two_steps grid)) == 0
    then limited_to_grid (int_div_euclid (scaled_by grid value) (two_steps grid))
    else None

-- rounded downward
abbrev pub floor_units_of : Grid → ℤ → Option ℤ
floor_units_of grid value = limited_to_grid (int_div_euclid (scaled_by grid value) (step_of_grid grid))

-- two different coordinates in order
abbrev pub in_order : ℤ → ℤ → Option Ends
in_order a b =
    if int_lt a b then Some (record { low = a; high = b }) else
    if int_lt b a then Some (record { low = b; high = a }) else
    None

abbrev pub ends_of : Option ℤ → Option ℤ → Option Ends
ends_of (Some a) (Some b) = in_order a b
ends_of _ _ = None

-- the ends are in order, and within the limits of a drawing
pub record IsSide (e : Ends) : Type 0 where
  pub order : e.low <ℤ e.high
  pub low : neg_ℤ (pos 1000000000) ≤ℤ e.low
  pub high : e.high ≤ℤ pos 1000000000
