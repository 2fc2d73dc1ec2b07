-- Pairs of a pin and its direction, which comments hold.
use Rattle.std.specs.Prelude.{ℕ, List, drop, filter_map, codes, bytes_eq, Option}
use Rattle.std.specs.Prelude.{Some, None, option_and_then, if◌then◌else◌}
use Rattle.spice_text.specs.declared.logical.Line.{Line}
use Rattle.spice_net.specs.declared.subckt.Direction.{Direction}
use Rattle.spice_net.specs.declared.subckt.Direction.TheVariants.{Input, Output, Inout}
use Rattle.spice_net.specs.Parameters.{value_in, last_of}

-- what stands behind a pin's name in a pair
abbrev pub direction_behind : List ℕ → Option Direction
direction_behind mark =
    if bytes_eq mark (codes ":i") then Some Input else
    if bytes_eq mark (codes ":o") then Some Output else
    if bytes_eq mark (codes ":b") then Some Inout else None

-- what a word tells of a pin: `name:i`, `name:o` or `name:b`
abbrev pub told_by : List ℕ → List ℕ → Option Direction
told_by pin word = option_and_then direction_behind (value_in pin word)

-- what the last pair for a pin tells
abbrev pub told_among : List ℕ → List (List ℕ) → Option Direction
told_among pin words = last_of (filter_map (told_by pin) words)

-- what a line tells of a pin, where it is a comment that tells directions
abbrev pub told_in : List ℕ → Line → Option Direction
told_in pin line = if line.info then told_among pin (drop 1 line.words) else None

-- what the last line tells that has a pair for the pin
abbrev pub told_of : List Line → List ℕ → Option Direction
told_of lines pin = last_of (filter_map (told_in pin) lines)
