-- Lengths in metres as decimal numbers, and the nearest whole number of units.
use Rattle.std.specs.Prelude.{ℕ, ◌+◌, ◌*◌, ◌/◌, ◌^◌, ◌<◌, ◌≤◌, ℤ, pos, negsuc, ◌+ℤ◌, nat_lt, Option, Some, None}
use Rattle.std.specs.Prelude.{if◌then◌else◌}
use Rattle.cell_num.specs.declared.length.Fixed.{Fixed}

-- A power of ten, written as a fraction of two whole powers: the one above the line ..
abbrev pub power_above : ℤ → ℕ
power_above (pos n) = n
power_above (negsuc n) = 0

-- .. and the one below it
abbrev pub power_below : ℤ → ℕ
power_below (pos n) = 0
power_below (negsuc n) = n + 1

-- A length of digits * 10^ten metres is `parts_of` parts, `parts_in_one` of which make a picometre.
abbrev pub parts_of : Fixed → ℕ
parts_of value = value.digits * 10 ^ power_above (value.ten +ℤ pos 12)

abbrev pub parts_in_one : Fixed → ℕ
parts_in_one value = 10 ^ power_below (value.ten +ℤ pos 12)

-- The whole number s of units u nearest to a length v, ties upward:
-- (2 s - 1) u <= 2 v < (2 s + 1) u, written without a difference.
pub record IsNearestOf (v u s : ℕ) : Type 0 where
  pub not_above : 2 * s * u ≤ 2 * v + u
  pub not_below : 2 * v < (2 * s + 1) * u

-- the number of units, of so many picometres each, nearest to a length
abbrev pub IsNearest : Fixed → ℕ → ℕ → Type 0
IsNearest value unit_pm s = IsNearestOf (parts_of value) (unit_pm * parts_in_one value) s

-- that number
abbrev pub nearest_units : Fixed → ℕ → ℕ
nearest_units value unit_pm = (2 * parts_of value + unit_pm * parts_in_one value) / (2 * (unit_pm * parts_in_one value))

-- that number, where it is at most so many
abbrev pub units_up_to : ℕ → Fixed → ℕ → Option ℕ
units_up_to most value unit_pm = if nat_lt most (nearest_units value unit_pm) then None
    else Some (nearest_units value unit_pm)
