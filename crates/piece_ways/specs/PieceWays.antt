-- All tracks after a next column where nets may turn at their node lines, as lists over the nets that are open there.
use Rattle.std.specs.Prelude.{ℕ, ◌&&◌, ◌||◌, not, Bool, List, [], filter}
use Rattle.std.specs.List.{flat_map}
use Rattle.cell_num.specs.declared.net.NetNo.{NetNo}
use Rattle.cell_num.specs.declared.net.Pins.{Pins}
use Rattle.row_state.specs.declared.kind.Kinds.{Kinds}
use Rattle.row_state.specs.declared.state.State.{State}
use Rattle.row_state.specs.declared.step.Step.{Step}
use Rattle.track_ways.specs.declared.line.Line.{Line}
use Rattle.track_ways.specs.declared.track.NetTrack.{NetTrack}
use Rattle.track_ways.specs.Lines.{is_open}
use Rattle.track_ways.specs.Ways.{LineWays, ends_ways_by, goes_ways_by, missing, pass_ways_by, ways_beside}
use Rattle.piece_lines.specs.Lines.{may_turn}

-- The tracks into a line: those that are listed, and any of the other nets with a place before it.
abbrev pub into_ways :
    Pins → ℕ → List NetNo → (NetNo → Bool) → Line → (NetNo → Bool) → List NetTrack → List (List NetTrack)
into_ways pins limit nets before line after tracks =
    ways_beside limit line [] (filter before (missing pins before line after nets tracks)) tracks

-- the net has a place before the line and one after it, and keeps its track
abbrev pub is_straight : Pins → (NetNo → Bool) → Line → (NetNo → Bool) → NetNo → Bool
is_straight pins before line after net = is_open pins before after net && not (may_turn line net)

abbrev pub straight_of : Pins → (NetNo → Bool) → Line → (NetNo → Bool) → List NetTrack → List NetTrack
straight_of pins before line after tracks = filter (λ (t : NetTrack). is_straight pins before line after t.net) tracks

-- a piece of the net goes on from a line that its trunk holds: it begins there, or has a place after it
abbrev pub goes_on : Pins → (NetNo → Bool) → (NetNo → Bool) → NetNo → Bool
goes_on pins before after net = not (before net) || is_open pins before after net

-- The tracks out of a line, from those into it: nets that go straight keep theirs, and the others that go on have any.
abbrev pub out_ways :
    Pins → ℕ → List NetNo → (NetNo → Bool) → Line → (NetNo → Bool) → List NetTrack → List (List NetTrack)
out_ways pins limit nets before line after into =
    ways_beside limit line into
    (filter (goes_on pins before after) (missing pins before line after nets (straight_of pins before line after into)))
    (straight_of pins before line after into)

-- the tracks out of a line, from those of the nets that are open before it
abbrev pub piece_line_ways : LineWays
piece_line_ways pins limit nets before line after tracks =
    flat_map (out_ways pins limit nets before line after) (into_ways pins limit nets before line after tracks)

-- the tracks after some lines, of nets in this list
abbrev pub piece_pass_ways :
    Pins → ℕ → List NetNo → (NetNo → Bool) → List Line → (NetNo → Bool) → List NetTrack → List (List NetTrack)
piece_pass_ways = pass_ways_by piece_line_ways

-- those after a next column
abbrev pub piece_goes_ways : Pins → ℕ → Kinds → State → List NetTrack → Step → List (List NetTrack)
piece_goes_ways = goes_ways_by piece_line_ways

-- and those after the last line
abbrev pub piece_ends_ways : Pins → ℕ → Kinds → State → List NetTrack → List (List NetTrack)
piece_ends_ways = ends_ways_by piece_line_ways
