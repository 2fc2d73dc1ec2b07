-- The numbers that values are: sizes in grid units, and counts.
use Rattle.std.specs.Prelude.{ℕ, ℤ, pos, negsuc, ◌+◌, ◌*◌, ◌/◌, ◌%◌, ◌^◌, ◌==◌, ◌&&◌, nat_le}
use Rattle.std.specs.Prelude.{List, Option, Some, None, option_and_then, unwrap_or, if◌then◌else◌}
use Rattle.cell_num.specs.declared.length.Fixed.{Fixed}
use Rattle.cell_num.specs.Length.{units_up_to}
use Rattle.spice_text.specs.Numbers.{fixed_of}
use Rattle.tech_file.specs.Technology.{Technology}

-- ---- sizes

-- the grid unit, half a lambda, in picometres
abbrev pub unit_pm : Technology → ℕ
unit_pm tech = 500 * tech.lambda_nm

-- the greatest size that is read
abbrev pub most_units : ℕ
most_units = 100000

-- the whole number of units nearest to a length, where it is not too large
abbrev pub units_of : Technology → List ℕ → Option ℕ
units_of tech value = option_and_then (λ metres. units_up_to most_units metres (unit_pm tech)) (fixed_of value)

-- ---- counts

-- the whole number that digits * 10^ten is, where it is one; `negsuc n` is -(n + 1)
abbrev pub whole_of : ℕ → ℤ → Option ℕ
whole_of digits (pos ten) = Some (digits * 10 ^ ten)
whole_of digits (negsuc n) = if digits % 10 ^ (n + 1) == 0 then Some (digits / 10 ^ (n + 1)) else None

-- the most equal transistors that a line stands for, and the most fingers that it asks for
abbrev pub most_counted : ℕ
most_counted = 64

abbrev pub counted : ℕ → Option ℕ
counted number = if nat_le 1 number && nat_le number most_counted then Some number else None

-- the whole number from 1 to 64 that a number is, where it is one
abbrev pub count_of : Fixed → Option ℕ
count_of number = option_and_then counted (whole_of number.digits number.ten)

-- ---- the least size of so many

-- the least width of a finger
abbrev pub least_units : ℕ
least_units = 6

-- the least width of a transistor that is cut into so many fingers: that of one, where `nf` is no count
abbrev pub least_width : Option ℕ → ℕ
least_width fingers = least_units * unwrap_or fingers 1
