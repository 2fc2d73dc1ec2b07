-- The front of a line of which the rest is to come: its bytes so far, unless a line has no room for them.
use Rattle.std.specs.Prelude.{ℕ, ◌+◌, ◌≤◌, leb, List, ◌++◌, Option, Some, None, IfSome, length, if◌then◌else◌}
use Rattle.log_lines.specs.declared.room.TheConstants.{MOST_LINE_BYTES}

-- with some bytes more; a line of a log has only so many
abbrev pub longer : Option (List ℕ) → List ℕ → Option (List ℕ)
longer None part = None
longer (Some line) part = if leb (length line + length part) MOST_LINE_BYTES then Some (line ++ part) else None

-- it holds no more than a line of a log can
abbrev pub IsShort : Option (List ℕ) → Type 0
IsShort line = IfSome line (λ bytes. length bytes ≤ MOST_LINE_BYTES)
