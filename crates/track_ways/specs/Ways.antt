-- All tracks after a next column, as lists over the nets that are open there.
use Rattle.std.specs.Prelude.{ℕ, ◌&&◌, ◌||◌, ◌==◌, ltb, not, cond, Bool, false, List, [], ◌∷◌, filter, map}
use Rattle.std.specs.List.{flat_map, list_all, list_any, range_with_len}
use Rattle.cell_num.specs.declared.net.NetNo.{NetNo}
use Rattle.cell_num.specs.declared.net.Pins.{Pins}
use Rattle.row_state.specs.declared.kind.Kinds.{Kinds}
use Rattle.row_state.specs.declared.state.State.{State}
use Rattle.row_state.specs.declared.step.Step.{Step}
use Rattle.row_state.specs.Steps.{column_of, state_after}
use Rattle.track_ways.specs.declared.line.Line.{Line}
use Rattle.track_ways.specs.Lines.{is_net, is_ahead, is_open, is_held, with_line}
use Rattle.track_ways.specs.Rows.{node_line}
use Rattle.track_ways.specs.States.{is_behind, is_still_ahead}
use Rattle.track_ways.specs.Paths.{lines_to}
use Rattle.track_ways.specs.declared.track.NetTrack.{NetTrack}

abbrev pub on_track : NetNo → ℕ → NetTrack
on_track net track = record { net = net; track = track }

abbrev pub net_of : ℕ → NetNo
net_of n = record { 0 = n }

abbrev pub nets_below : ℕ → List NetNo
nets_below n = map net_of (range_with_len 0 n)

abbrev pub is_listed : List NetTrack → NetNo → Bool
is_listed tracks net = list_any (λ (t : NetTrack). t.net.0 == net.0) tracks

-- the tracks of the nets that are open
abbrev pub open_of : Pins → (NetNo → Bool) → (NetNo → Bool) → List NetTrack → List NetTrack
open_of pins before behind tracks = filter (λ (t : NetTrack). is_open pins before behind t.net) tracks

-- the nets that hold the line and have no track yet
abbrev pub missing :
    Pins → (NetNo → Bool) → Line → (NetNo → Bool) → List NetNo → List NetTrack → List NetNo
missing pins before line behind nets tracks =
    filter (λ net. is_held pins before line behind net && not (is_listed tracks net)) nets

-- each way to give these nets tracks below a limit
abbrev pub fills : ℕ → List NetNo → List NetTrack → List (List NetTrack)
fills limit [] tracks = tracks ∷ []
fills limit (net ∷ nets) tracks =
    flat_map (λ j. fills limit nets (on_track net j ∷ tracks)) (range_with_len 0 limit)

-- a net has one track; two nets have different ones, the net in the P row a higher one than the net in the N row
abbrev pub are_apart : Line → NetTrack → NetTrack → Bool
are_apart line t u =
    cond (t.net.0 == u.net.0) (t.track == u.track)
    (not (t.track == u.track) && (not (is_net line.p t.net && is_net line.n u.net) || ltb u.track t.track))

abbrev pub line_test : ℕ → Line → List NetTrack → Bool
line_test limit line tracks =
    list_all (λ (t : NetTrack). ltb t.track limit && list_all (are_apart line t) tracks) tracks

-- tracks of two nets on the two sides of the line are apart
abbrev pub go_together : Line → NetTrack → NetTrack → Bool
go_together line t u = t.net.0 == u.net.0 || (are_apart line t u && are_apart line u t)

-- tracks on one side of the line fit it beside those on the other side
abbrev pub test_beside : ℕ → Line → List NetTrack → List NetTrack → Bool
test_beside limit line others tracks =
    line_test limit line tracks && list_all (λ (t : NetTrack). list_all (go_together line t) others) tracks

-- each way to give these nets, besides those with tracks, tracks that fit
abbrev pub ways_beside : ℕ → Line → List NetTrack → List NetNo → List NetTrack → List (List NetTrack)
ways_beside limit line others nets tracks = filter (test_beside limit line others) (fills limit nets tracks)

-- the tracks at or after a line, of nets in this list, from those of the nets that are open before it
abbrev pub LineWays : Type 0
LineWays = Pins → ℕ → List NetNo → (NetNo → Bool) → Line → (NetNo → Bool) → List NetTrack → List (List NetTrack)

-- those where nets go straight
abbrev pub line_ways : LineWays
line_ways pins limit nets before line after tracks =
    filter (line_test limit line) (fills limit (missing pins before line after nets tracks) tracks)

-- the tracks after some lines
abbrev pub pass_ways_by :
    LineWays → Pins → ℕ → List NetNo → (NetNo → Bool) → List Line → (NetNo → Bool) → List NetTrack
    → List (List NetTrack)
pass_ways_by ways pins limit nets before [] after tracks = open_of pins before after tracks ∷ []
pass_ways_by ways pins limit nets before (line ∷ rest) after tracks =
    flat_map (pass_ways_by ways pins limit nets (with_line before line) rest after)
    (ways pins limit nets before line (λ net. is_ahead rest net || after net)
    (open_of pins before (λ net. is_ahead (line ∷ rest) net || after net) tracks))

-- those after a next column
abbrev pub goes_ways_by : LineWays → Pins → ℕ → Kinds → State → List NetTrack → Step → List (List NetTrack)
goes_ways_by ways pins limit k s tracks step =
    pass_ways_by ways pins limit (nets_below k.nets) (is_behind k s) (lines_to s (column_of k step))
    (is_still_ahead k (state_after k s step)) tracks

-- and those after the last line
abbrev pub ends_ways_by : LineWays → Pins → ℕ → Kinds → State → List NetTrack → List (List NetTrack)
ends_ways_by ways pins limit k s tracks =
    pass_ways_by ways pins limit (nets_below k.nets) (is_behind k s) (node_line s.p_end s.n_end ∷ []) (λ net. false)
    tracks

-- the same where nets go straight
abbrev pub pass_ways :
    Pins → ℕ → List NetNo → (NetNo → Bool) → List Line → (NetNo → Bool) → List NetTrack → List (List NetTrack)
pass_ways = pass_ways_by line_ways

abbrev pub goes_ways : Pins → ℕ → Kinds → State → List NetTrack → Step → List (List NetTrack)
goes_ways = goes_ways_by line_ways

abbrev pub ends_ways : Pins → ℕ → Kinds → State → List NetTrack → List (List NetTrack)
ends_ways = ends_ways_by line_ways

-- the nets with a place before the state after a next column
abbrev pub is_behind_step : Kinds → State → Step → NetNo → Bool
is_behind_step k s step net = is_behind k s net || is_ahead (lines_to s (column_of k step)) net
