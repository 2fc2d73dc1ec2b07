-- Numbers of a SPICE text: digits with a point, an exponent, and letters that may begin with a scale.
use Rattle.std.specs.Prelude.{ℕ, ◌+◌, ◌-◌, ◌*◌, ◌==◌, ◌||◌, ◌&&◌, not, nat_lt, nat_le, Bool}
use Rattle.std.specs.Prelude.{false, ℤ, pos, neg_ℤ, ◌+ℤ◌, ◌-ℤ◌, int_le, List, [], ◌∷◌, length}
use Rattle.std.specs.Prelude.{take, drop, filter, fold, codes, Option, Some, None, if◌then◌else◌}
use Rattle.std.specs.Char.{is_ascii_digit, is_ascii_alphabetic}
use Rattle.std.specs.List.{prefix_len, suffix_len, take_while, after_first, count_by, list_any, list_all}
use Rattle.std.specs.Str.{str_eq_ignore_ascii_case}
use Rattle.cell_num.specs.declared.length.Fixed.{Fixed}

-- ---- the mantissa: digits with at most one point

-- `.`
abbrev pub is_point : ℕ → Bool
is_point b = b == 46

abbrev pub is_mantissa_byte : ℕ → Bool
is_mantissa_byte b = is_ascii_digit b || is_point b

-- the digits and points in front of a word
abbrev pub mantissa_of : List ℕ → List ℕ
mantissa_of word = take_while is_mantissa_byte word

abbrev pub behind_mantissa : List ℕ → List ℕ
behind_mantissa word = drop (prefix_len is_mantissa_byte word) word

-- at least one digit, at most one point
abbrev pub is_mantissa : List ℕ → Bool
is_mantissa mantissa = list_any is_ascii_digit mantissa && nat_le (count_by is_point mantissa) 1

-- how many digits stand behind the point
abbrev pub places_of : List ℕ → ℕ
places_of mantissa = length (after_first is_point mantissa)

-- `0`
abbrev pub is_zero : ℕ → Bool
is_zero b = b == 48

abbrev pub without_zeros_in_front : List ℕ → List ℕ
without_zeros_in_front digits = drop (prefix_len is_zero digits) digits

abbrev pub without_zeros_at_end : List ℕ → List ℕ
without_zeros_at_end digits = take (length digits - suffix_len is_zero digits) digits

-- the digits on both sides of the point, without the zeros in front of them ..
abbrev pub digits_of : List ℕ → List ℕ
digits_of mantissa = without_zeros_in_front (filter is_ascii_digit mantissa)

-- .. and without the zeros at their end
abbrev pub kept_of : List ℕ → List ℕ
kept_of mantissa = without_zeros_at_end (digits_of mantissa)

-- how many zeros at the end are left out
abbrev pub left_out : List ℕ → ℕ
left_out mantissa = length (digits_of mantissa) - length (kept_of mantissa)

abbrev pub with_digit : ℕ → ℕ → ℕ
with_digit value digit = 10 * value + (digit - 48)

-- the number that digits spell
abbrev pub spelled_number : List ℕ → ℕ
spelled_number digits = fold with_digit 0 digits

-- ---- the exponent: `e`, a sign that may be absent, one or two digits

-- `+` or `-`
abbrev pub is_sign : ℕ → Bool
is_sign b = b == 43 || b == 45

-- whether a text begins with `-`
abbrev pub begins_with_minus : List ℕ → Bool
begins_with_minus [] = false
begins_with_minus (b ∷ bs) = b == 45

abbrev pub behind_sign : List ℕ → List ℕ
behind_sign [] = []
behind_sign (b ∷ bs) = if is_sign b then bs else b ∷ bs

-- the one or two digits in front of a text
abbrev pub exponent_digits : List ℕ → List ℕ
exponent_digits text = take_while is_ascii_digit (take 2 text)

-- `e` or `E`
abbrev pub is_exponent_mark : ℕ → Bool
is_exponent_mark b = b == 101 || b == 69

-- it begins an exponent only where a digit, or a sign and a digit, follows
abbrev pub has_exponent : List ℕ → Bool
has_exponent [] = false
has_exponent (b ∷ bs) = is_exponent_mark b && not (length (exponent_digits (behind_sign bs)) == 0)

abbrev pub signed : Bool → ℕ → ℤ
signed minus n = if minus then neg_ℤ (pos n) else pos n

-- the exponent at a text's begin, 0 where there is none ..
abbrev pub exponent_of : List ℕ → ℤ
exponent_of text =
    if has_exponent text
    then signed (begins_with_minus (drop 1 text)) (spelled_number (exponent_digits (behind_sign (drop 1 text))))
    else pos 0

-- .. and what stands behind it
abbrev pub behind_exponent : List ℕ → List ℕ
behind_exponent text =
    if has_exponent text then drop (length (exponent_digits (behind_sign (drop 1 text)))) (behind_sign (drop 1 text))
    else text

-- ---- the letters, in either case

abbrev pub begins_with_letters : List ℕ → List ℕ → Bool
begins_with_letters front text = str_eq_ignore_ascii_case (take (length front) text) front

-- letters alone, and no thousandths of an inch
abbrev pub are_letters : List ℕ → Bool
are_letters text = list_all is_ascii_alphabetic text && not (begins_with_letters (codes "mil") text)

-- the letters of each scale, and its power of ten
abbrev pub scales : List (List ℕ × ℤ)
scales =
    (codes "t", pos 12)
    ∷ (codes "g", pos 9)
    ∷ (codes "meg", pos 6)
    ∷ (codes "k", pos 3)
    ∷ (codes "m", neg_ℤ (pos 3))
    ∷ (codes "u", neg_ℤ (pos 6))
    ∷ (codes "n", neg_ℤ (pos 9))
    ∷ (codes "p", neg_ℤ (pos 12))
    ∷ (codes "f", neg_ℤ (pos 15))
    ∷ []

-- the power of the first scale that a text begins with, 0 where it begins with none
abbrev pub first_scale : List (List ℕ × ℤ) → List ℕ → ℤ
first_scale [] text = pos 0
first_scale ((letters, power) ∷ others) text =
    if begins_with_letters letters text then power else first_scale others text

abbrev pub scale_of : List ℕ → ℤ
scale_of text = first_scale scales text

-- ---- the number

abbrev pub power_of : List ℕ → ℤ → ℤ → ℤ
power_of mantissa exponent scale = exponent +ℤ scale -ℤ pos (places_of mantissa) +ℤ pos (left_out mantissa)

abbrev pub most_digits : ℕ
most_digits = 18

-- the greatest power of ten; the least is its negative
abbrev pub most_power : ℕ
most_power = 60

abbrev pub within_most : ℤ → Option ℤ
within_most power = if int_le (neg_ℤ (pos most_power)) power && int_le power (pos most_power) then Some power else None

abbrev pub with_power : List ℕ → Option ℤ → Option Fixed
with_power digits None = None
with_power digits (Some power) = Some (record { digits = spelled_number digits; ten = power })

-- a number of at most so many digits and such a power; zero has power 0, whatever its exponent
abbrev pub fixed_from : List ℕ → ℤ → Option Fixed
fixed_from digits power =
    if length digits == 0 then Some (record { digits = 0; ten = pos 0 }) else
    if nat_lt most_digits (length digits) then None else
    with_power digits (within_most power)

abbrev pub fixed_of_parts : List ℕ → List ℕ → Option Fixed
fixed_of_parts mantissa rest =
    if not (is_mantissa mantissa) || not (are_letters (behind_exponent rest)) then None else
    fixed_from (kept_of mantissa) (power_of mantissa (exponent_of rest) (scale_of (behind_exponent rest)))

-- the number that a word spells, where it spells one
abbrev pub fixed_of : List ℕ → Option Fixed
fixed_of word = fixed_of_parts (mantissa_of word) (behind_mantissa word)
