-- The solutions of a list of distances, and the least of them.
use Rattle.std.specs.Prelude.{ℕ, ◌≡◌, ◌+◌, ◌≤◌, ◌<◌, List, length, get_or}
use Rattle.std.specs.List.{All}
use Rattle.row_compact.specs.Measures.{SIDE_SPACE, LINE_SPACE}
use Rattle.row_compact.specs.declared.distance.Distance.{Distance}
use Rattle.row_compact.specs.declared.distance.Distances.{Distances}

-- the position of a line
abbrev pub x_of : List ℕ → ℕ → ℕ
x_of xs line = get_or xs line 0

-- from a line to a later one, by at most 1,000
pub record IsEntry (lines : ℕ) (d : Distance) : Type 0 where
  pub ascends : d.from < d.to
  pub within : d.to < lines
  pub modest : d.least ≤ 1000

-- the second line is far enough after the first
abbrev pub IsKept : List ℕ → Distance → Type 0
IsKept xs d = x_of xs d.from + d.least ≤ x_of xs d.to

-- a position for each line: line 0 at 8 or more, and each distance is kept
pub record IsSolution (d : Distances) (xs : List ℕ) : Type 0 where
  pub lines : length xs ≡ d.lines
  pub first : SIDE_SPACE ≤ x_of xs 0
  pub kept : All (IsKept xs) d.list

-- a solution that is at every line at most every other one
pub record IsLeast (d : Distances) (xs : List ℕ) : Type 0 where
  pub solution : IsSolution d xs
  pub least : (other : List ℕ) → IsSolution d other → (line : ℕ) → line < d.lines → x_of xs line ≤ x_of other line

-- this number of lines, the first at 8 or more and each other one 8 or more after the line before
pub record AreSpread (lines : ℕ) (xs : List ℕ) : Type 0 where
  pub count : length xs ≡ lines
  pub first : 0 < lines → SIDE_SPACE ≤ x_of xs 0
  pub next : (line : ℕ) → line + 1 < lines → x_of xs line + LINE_SPACE ≤ x_of xs (line + 1)
