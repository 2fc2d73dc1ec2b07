-- The tracks through one line more.
use Rattle.std.proofs.Common.{ℕ, ◌≡◌, ◌++◌, ◌||◌, Bool, false, List, [], ◌∷◌, sym, ap, ◌∙◌}
use Rattle.std.specs.List.{flat_map}
use Rattle.cell_num.specs.declared.net.NetNo.{NetNo}
use Rattle.cell_num.specs.declared.net.Pins.{Pins}
use Rattle.row_state.specs.declared.kind.Kinds.{Kinds}
use Rattle.row_state.specs.declared.state.State.{State}
use Rattle.row_state.specs.declared.step.Step.{Step}
use Rattle.row_state.specs.Steps.{column_of, state_after}
use Rattle.track_ways.specs.Paths.{lines_to}
use Rattle.track_ways.specs.States.{is_behind, is_still_ahead}
use Rattle.track_ways.specs.declared.line.Line.{Line}
use Rattle.track_ways.specs.Lines.{is_ahead, with_line}
use Rattle.track_ways.specs.Rows.{node_line}
use Rattle.track_ways.specs.declared.track.NetTrack.{NetTrack}
use Rattle.track_ways.specs.Ways.{LineWays, ends_ways_by, goes_ways_by, nets_below, open_of, pass_ways_by}

pub pass_next : (ways_at : LineWays) (pins : Pins) (limit : ℕ) (nets : List NetNo) (before : NetNo → Bool)
    (lines : List Line) (line : Line) (rest : List Line) (behind : NetNo → Bool) (tracks kept : List NetTrack)
    (here : List (List NetTrack)) (after : NetNo → Bool) (ways old : List (List NetTrack)) → lines ≡ line ∷ rest →
    kept ≡ open_of pins before (λ n. is_ahead lines n || behind n) tracks →
    here ≡ ways_at pins limit nets before line (λ n. is_ahead rest n || behind n) kept → after ≡ with_line before line →
    ways ≡ old ++ flat_map (pass_ways_by ways_at pins limit nets after rest behind) here →
    ways ≡ old ++ pass_ways_by ways_at pins limit nets before lines behind tracks
pass_next ways_at pins limit nets before lines line rest behind tracks kept here after ways old split is_kept is_here is_after so_far =
    so_far
    ∙ ap (λ a. old ++ flat_map (pass_ways_by ways_at pins limit nets a rest behind) here) is_after
    ∙ ap (λ h. old ++ flat_map (pass_ways_by ways_at pins limit nets (with_line before line) rest behind) h) is_here
    ∙ ap (λ k. old ++ flat_map (pass_ways_by ways_at pins limit nets (with_line before line) rest behind) (ways_at pins limit nets before line (λ n. is_ahead rest n || behind n) k)) is_kept
    ∙ ap (λ ls. old ++ flat_map (pass_ways_by ways_at pins limit nets (with_line before line) rest behind) (ways_at pins limit nets before line (λ n. is_ahead rest n || behind n) (open_of pins before (λ n. is_ahead ls n || behind n) tracks))) split
    ∙ ap (λ ls. old ++ pass_ways_by ways_at pins limit nets before ls behind tracks) (sym split)

-- tracks through the lines to a next column are those behind it
pub goes_is : (ways_at : LineWays) (pins : Pins) (limit : ℕ) (k : Kinds) (s : State) (step : Step)
    (tracks : List NetTrack) (before behind : NetNo → Bool) (lines : List Line) (ways : List (List NetTrack)) →
    lines ≡ lines_to s (column_of k step) → before ≡ is_behind k s → behind ≡ is_still_ahead k (state_after k s step) →
    ways ≡ pass_ways_by ways_at pins limit (nets_below k.nets) before lines behind tracks →
    ways ≡ goes_ways_by ways_at pins limit k s tracks step
goes_is ways_at pins limit k s step tracks before behind lines ways is_lines is_before is_later is =
    is
    ∙ ap (λ b. pass_ways_by ways_at pins limit (nets_below k.nets) b lines behind tracks) is_before
    ∙ ap (λ ls. pass_ways_by ways_at pins limit (nets_below k.nets) (is_behind k s) ls behind tracks) is_lines
    ∙ ap (λ b. pass_ways_by ways_at pins limit (nets_below k.nets) (is_behind k s) (lines_to s (column_of k step)) b tracks) is_later

-- and those through the last line
pub ends_is : (ways_at : LineWays) (pins : Pins) (limit : ℕ) (k : Kinds) (s : State) (tracks : List NetTrack)
    (before behind : NetNo → Bool) (lines : List Line) (ways : List (List NetTrack)) →
    lines ≡ node_line s.p_end s.n_end ∷ [] → before ≡ is_behind k s → behind ≡ (λ net. false) →
    ways ≡ pass_ways_by ways_at pins limit (nets_below k.nets) before lines behind tracks →
    ways ≡ ends_ways_by ways_at pins limit k s tracks
ends_is ways_at pins limit k s tracks before behind lines ways is_lines is_before is_none is =
    is
    ∙ ap (λ b. pass_ways_by ways_at pins limit (nets_below k.nets) b lines behind tracks) is_before
    ∙ ap (λ ls. pass_ways_by ways_at pins limit (nets_below k.nets) (is_behind k s) ls behind tracks) is_lines
    ∙ ap (λ b. pass_ways_by ways_at pins limit (nets_below k.nets) (is_behind k s) (node_line s.p_end s.n_end ∷ []) b tracks) is_none
