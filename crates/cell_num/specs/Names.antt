-- Names of nets, transistors, models and cells.
use Rattle.std.specs.Prelude.{ℕ, ◌==◌, ◌&&◌, ◌||◌, not, nat_le, Bool, List, map, length, codes}
use Rattle.std.specs.List.{list_all, list_any}
use Rattle.std.specs.Char.{to_ascii_lowercase}

-- letters in lower case, all else as it is
abbrev pub lowered : List ℕ → List ℕ
lowered text = map to_ascii_lowercase text

-- printable ASCII, but for what other formats read as a mark
abbrev pub is_name_byte : ℕ → Bool
is_name_byte b = nat_le 33 b && nat_le b 126 && not (list_any (λ c. c == b) (codes "=;#\"'(),{}\\"))

-- the bytes of the longest name
abbrev pub most_bytes : ℕ
most_bytes = 64

abbrev pub is_name : List ℕ → Bool
is_name word = nat_le 1 (length word) && nat_le (length word) most_bytes && list_all is_name_byte word

-- a letter, a digit, `_`, `$` or `?`
abbrev pub is_cell_byte : ℕ → Bool
is_cell_byte b =
    (nat_le 97 b && nat_le b 122) || (nat_le 65 b && nat_le b 90) || (nat_le 48 b && nat_le b 57)
    || b == 95 || b == 36 || b == 63

-- the name of a cell: 1 to 32 such bytes
abbrev pub is_cell : List ℕ → Bool
is_cell name = nat_le 1 (length name) && nat_le (length name) 32 && list_all is_cell_byte name
