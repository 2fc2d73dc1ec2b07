-- The words of a joined line.
use Rattle.std.specs.Prelude.{ℕ, ◌==◌, ◌-◌, not, List, length, take, filter, map}
use Rattle.std.specs.List.{slice_split, join_with_byte, suffix_len}
use Rattle.cell_num.specs.Names.{lowered}
use Rattle.spice_text.specs.Physical.{is_blank, without_blanks_in_front}

abbrev pub without_blanks_at_end : List ℕ → List ℕ
without_blanks_at_end text = take (length text - suffix_len is_blank text) text

-- a text without the blanks in front and at its end
abbrev pub trimmed : List ℕ → List ℕ
trimmed text = without_blanks_at_end (without_blanks_in_front text)

-- the text without the blanks on either side of each `=`
abbrev pub joined_at_equals : List ℕ → List ℕ
joined_at_equals text = join_with_byte 61 (map trimmed (slice_split (λ b. b == 61) text))

-- what stands between blanks, in lower case
abbrev pub words_of : List ℕ → List (List ℕ)
words_of text = map lowered (filter (λ w. not (length w == 0)) (slice_split is_blank (joined_at_equals text)))
