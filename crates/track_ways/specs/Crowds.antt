-- Lines that more nets hold than there are tracks.
use Rattle.std.specs.Prelude.{ℕ, ◌&&◌, ◌||◌, not, ltb, Bool, true, false, List, [], ◌∷◌, count_by}
use Rattle.cell_num.specs.declared.net.NetNo.{NetNo}
use Rattle.cell_num.specs.declared.net.Pins.{Pins}
use Rattle.row_state.specs.declared.kind.Kinds.{Kinds}
use Rattle.row_state.specs.declared.state.State.{State}
use Rattle.row_state.specs.declared.step.Step.{Step}
use Rattle.row_state.specs.Steps.{column_of, state_after}
use Rattle.track_ways.specs.declared.line.Line.{Line}
use Rattle.track_ways.specs.Lines.{is_ahead, is_held, with_line}
use Rattle.track_ways.specs.Rows.{node_line}
use Rattle.track_ways.specs.States.{is_behind, is_still_ahead}
use Rattle.track_ways.specs.Paths.{lines_to}
use Rattle.track_ways.specs.Ways.{nets_below}

-- how many nets below the number hold the line
abbrev pub nets_at : Pins → ℕ → (NetNo → Bool) → Line → (NetNo → Bool) → ℕ
nets_at pins nets before line after = count_by (is_held pins before line after) (nets_below nets)

-- no line is crowded: at most as many nets as the limit hold it; `before` and `after` have the nets with a place before
-- and after the lines
abbrev pub none_crowded : Pins → ℕ → ℕ → (NetNo → Bool) → List Line → (NetNo → Bool) → Bool
none_crowded pins limit nets before [] after = true
none_crowded pins limit nets before (line ∷ rest) after =
    not (ltb limit (nets_at pins nets before line (λ net. is_ahead rest net || after net)))
    && none_crowded pins limit nets (with_line before line) rest after

-- no line from the state's last node line to the gate of a next column is crowded
abbrev pub step_uncrowded : Pins → ℕ → Kinds → State → Step → Bool
step_uncrowded pins limit k s step =
    none_crowded pins limit k.nets (is_behind k s) (lines_to s (column_of k step))
    (is_still_ahead k (state_after k s step))

-- nor is the last line
abbrev pub end_uncrowded : Pins → ℕ → Kinds → State → Bool
end_uncrowded pins limit k s =
    none_crowded pins limit k.nets (is_behind k s) (node_line s.p_end s.n_end ∷ []) (λ net. false)
