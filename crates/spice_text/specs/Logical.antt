-- Logical lines.
use Rattle.std.specs.Prelude.{Bool, true, false, ℕ, ◌+◌, ◌==◌, List, [], ◌∷◌}
use Rattle.std.specs.Prelude.{◌++◌, codes, Result, Ok, Err, if◌then◌else◌}
use Rattle.std.specs.Str.{bytes_eq}
use Rattle.spice_text.specs.declared.logical.Line.{Line}
use Rattle.spice_text.specs.declared.logical.TextFault.{TextFault}
use Rattle.spice_text.specs.declared.logical.TextFault.TheVariants as fault
use Rattle.spice_text.specs.Physical.{physical, without_comment, without_blanks_in_front, is_refused}
use Rattle.spice_text.specs.Words.{words_of}

-- what the continuations in front add to the line before them, and the lines behind, each with its continuations
pub record Group : Type 0 where
  pub front : List ℕ
  pub lines : List Line

abbrev pub nothing : Group
nothing = record { front = []; lines = [] }

-- a line that begins at number n, with its continuations joined to its text
abbrev pub line_of : ℕ → List ℕ → Line
line_of n text = record { number = n; info = false; words = words_of text }

-- the words of a comment that tells directions of pins
abbrev pub tells_directions : List (List ℕ) → Bool
tells_directions [] = false
tells_directions (word ∷ words) = bytes_eq word (codes "*.pininfo")

-- such a comment is a line of its own, and what continues the line before it may stand behind it
abbrev pub with_comment : ℕ → List (List ℕ) → Group → Group
with_comment n words g =
    if tells_directions words then
    record { front = g.front; lines = record { number = n; info = true; words = words } ∷ g.lines }
    else g

-- A physical line without its comment, in front of others. It is told by what stands behind the blanks in
-- front: nothing, `*` for a comment, `+` for a continuation, else a line begins.
abbrev pub grouped_by : List ℕ → ℕ → List ℕ → Group → Group
grouped_by [] n line g = g
grouped_by (b ∷ body) n line g =
    if b == 42 then with_comment n (words_of line) g else
    if b == 43 then record { front = (32 ∷ body) ++ g.front; lines = g.lines }
    else record { front = []; lines = line_of n (line ++ g.front) ∷ g.lines }

abbrev pub grouped : ℕ → List ℕ → Group → Group
grouped n line g = grouped_by (without_blanks_in_front line) n line g

abbrev pub then_group : ℕ → List ℕ → Result Group TextFault → Result Group TextFault
then_group n line (Ok g) = Ok (grouped n line g)
then_group n line (Err e) = Err e

-- the physical lines from number n on, or the first that holds a byte it may not
abbrev pub group : ℕ → List (List ℕ) → Result Group TextFault
group n [] = Ok nothing
group n (line ∷ lines) =
    if is_refused (without_comment true line) then Err (fault.NotAscii n)
    else then_group n (without_comment true line) (group (n + 1) lines)

abbrev pub lines_of : Result Group TextFault → Result (List Line) TextFault
lines_of (Ok g) = Ok g.lines
lines_of (Err e) = Err e

-- the lines of a text; continuations in front of the first belong to none
abbrev pub split_of : List ℕ → Result (List Line) TextFault
split_of bytes = lines_of (group 1 (physical bytes))
