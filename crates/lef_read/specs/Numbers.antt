-- Numbers of a LEF text: microns with at most three decimals, in nanometres.
use Rattle.std.specs.Prelude.{ℕ, ◌+◌, ◌-◌, ◌*◌, ◌==◌, ◌&&◌, not, nat_le, Bool, ℤ, pos, neg_ℤ}
use Rattle.std.specs.Prelude.{List, [], ◌∷◌, length, drop, get_or, Option, Some, None, option_map, if◌then◌else◌}
use Rattle.std.specs.Char.{is_ascii_digit}
use Rattle.std.specs.List.{list_all}
use Rattle.std.specs.Str.Parse.{digits_value}

abbrev pub is_point : ℕ → Bool
is_point b = b == 46

-- what is before the first point, and what after it
abbrev pub before_point : List ℕ → List ℕ
before_point [] = []
before_point (b ∷ bs) = if is_point b then [] else b ∷ before_point bs

abbrev pub behind_point : List ℕ → List ℕ
behind_point [] = []
behind_point (b ∷ bs) = if is_point b then bs else behind_point bs

abbrev pub is_zero : ℕ → Bool
is_zero b = b == 48

-- the digit at a place after the point, 0 where there is none
abbrev pub digit_at : List ℕ → ℕ → ℕ
digit_at tail i = get_or tail i 48 - 48

abbrev pub thousandths : List ℕ → ℕ
thousandths tail = 100 * digit_at tail 0 + 10 * digit_at tail 1 + digit_at tail 2

-- after the third decimal
abbrev pub zeros_behind : List ℕ → Bool
zeros_behind tail = list_all is_zero (drop 3 tail)

-- digits on one side of the point at least, and zeros alone after the third decimal
abbrev pub is_number : List ℕ → List ℕ → Bool
is_number whole tail =
    list_all is_ascii_digit whole && list_all is_ascii_digit tail
    && not (length whole == 0 && length tail == 0) && zeros_behind tail

-- at most 1,000,000 microns
abbrev pub at_most : ℕ → Option ℕ
at_most nm = if nat_le nm 1000000000 then Some nm else None

abbrev pub value_of : List ℕ → List ℕ → Option ℕ
value_of whole tail = if is_number whole tail then at_most (1000 * digits_value 10 whole + thousandths tail) else None

unfoldable pub length_of : List ℕ → Option ℕ
length_of word = value_of (before_point word) (behind_point word)

-- a number after `-`, or without it
unfoldable pub nanometres_of : List ℕ → Option ℤ
nanometres_of [] = None
nanometres_of (b ∷ bs) =
    if b == 45 then option_map (λ n. neg_ℤ (pos n)) (length_of bs) else option_map (λ n. pos n) (length_of (b ∷ bs))

-- the number that digits give after those of n: the reader's own word, digit by digit
abbrev pub whole_after : ℕ → List ℕ → ℕ
whole_after n [] = n
whole_after n (b ∷ bs) = whole_after (10 * n + (b - 48)) bs
