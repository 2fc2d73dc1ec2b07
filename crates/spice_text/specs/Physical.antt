-- Physical lines.
use Rattle.std.specs.Prelude.{ℕ, ◌==◌, ◌||◌, ◌&&◌, not, nat_lt, Bool, false, List, [], ◌∷◌, if◌then◌else◌}
use Rattle.std.specs.List.{list_any}

abbrev pub with_byte : ℕ → List (List ℕ) → List (List ℕ)
with_byte b [] = (b ∷ []) ∷ []
with_byte b (line ∷ lines) = (b ∷ line) ∷ lines

abbrev pub begins_with : ℕ → List ℕ → Bool
begins_with b [] = false
begins_with b (c ∷ cs) = c == b

-- A line ends by a line feed, or a carriage return and a line feed. Bytes behind the last are a line.
unfoldable pub physical : List ℕ → List (List ℕ)
physical [] = []
physical (b ∷ bs) =
    if b == 10 then [] ∷ physical bs else
    if b == 13 && begins_with 10 bs then physical bs else
    with_byte b (physical bs)

abbrev pub is_blank : ℕ → Bool
is_blank b = b == 32 || b == 9

-- what stands before a `$` at the line's begin or behind a blank; `blank`: at the begin, or a blank stands before
abbrev pub without_comment : Bool → List ℕ → List ℕ
without_comment blank [] = []
without_comment blank (b ∷ bs) = if blank && b == 36 then [] else b ∷ without_comment (is_blank b) bs

-- what stands behind the blanks in front
abbrev pub without_blanks_in_front : List ℕ → List ℕ
without_blanks_in_front [] = []
without_blanks_in_front (b ∷ bs) = if is_blank b then without_blanks_in_front bs else b ∷ bs

-- a byte that no line may hold
abbrev pub is_bad : ℕ → Bool
is_bad b = not (b == 9) && (nat_lt b 32 || nat_lt 126 b)

-- a line that begins with `*`, where it has no blanks in front
abbrev pub is_comment : List ℕ → Bool
is_comment [] = false
is_comment (b ∷ bs) = b == 42

abbrev pub is_refused : List ℕ → Bool
is_refused line = not (is_comment (without_blanks_in_front line)) && list_any is_bad line
