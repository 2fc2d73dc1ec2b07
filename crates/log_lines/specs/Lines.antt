-- The lines of a text, which line feeds (byte 10) end.
use Rattle.std.specs.Prelude.{ℕ, List, [], ◌∷◌}
use Rattle.log_lines.specs.Words.{parts_at}

abbrev pub without_last : List (List ℕ) → List (List ℕ)
without_last [] = []
without_last (part ∷ []) = []
without_last (part ∷ next ∷ more) = part ∷ without_last (next ∷ more)

abbrev pub last_of : List (List ℕ) → List ℕ
last_of [] = []
last_of (part ∷ []) = part
last_of (part ∷ next ∷ more) = last_of (next ∷ more)

-- the whole lines: those that a line feed ends
unfoldable pub lines_in : List ℕ → List (List ℕ)
lines_in bytes = without_last (parts_at 10 bytes)

-- the bytes behind the last line feed
unfoldable pub behind : List ℕ → List ℕ
behind bytes = last_of (parts_at 10 bytes)
