-- The words of a line, and the numbers that words are.
use Rattle.std.specs.Prelude.{ℕ, Bool, ◌==◌, List, [], Option, Some, None, find, decimal}
use Rattle.std.specs.Borrow.{Bor}
use Rattle.std.specs.List.{slice_split, range_with_len}
use Rattle.std.specs.Str.{bytes_eq}

-- the words are alike
abbrev pub is_word : List ℕ → List ℕ → Bool
is_word word other = bytes_eq word other

-- the parts between one byte and the next of its kind
abbrev pub parts_at : ℕ → List ℕ → List (List ℕ)
parts_at byte text = slice_split (λ b. b == byte) text

-- the parts of what is left of a text, if anything is
abbrev pub parts_left : ℕ → Option (Bor (List ℕ)) → List (List ℕ)
parts_left byte None = []
parts_left byte (Some text) = parts_at byte text.now

-- the words of a line, between its spaces
abbrev pub words_in : List ℕ → List (List ℕ)
words_in line = parts_at 32 line

-- the number below the limit of which the word is the decimal
unfoldable pub number_below : ℕ → List ℕ → Option ℕ
number_below limit word = find (λ n. is_word word (decimal n)) (range_with_len 0 limit)
