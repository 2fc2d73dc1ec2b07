-- Tracks along a path of states: the tracks of the nets that are open after a state go on through its next columns.
use Rattle.std.specs.Prelude.{ℕ, ◌+◌, ◌≤◌, false, List, [], ◌∷◌, ◌++◌}
use Rattle.cell_num.specs.declared.net.NetNo.{NetNo}
use Rattle.cell_num.specs.declared.net.Pins.{Pins}
use Rattle.row_model.specs.declared.column.Column.{Column}
use Rattle.row_state.specs.declared.kind.Kinds.{Kinds}
use Rattle.row_state.specs.declared.state.State.{State}
use Rattle.row_state.specs.declared.step.Step.{Step}
use Rattle.row_state.specs.Completion.{Completes}
use Rattle.row_state.specs.Start.{start_of}
use Rattle.row_state.specs.Steps.{column_of, state_after, IsPossible}
use Rattle.track_ways.specs.declared.line.Line.{Line}
use Rattle.track_ways.specs.Lines.{LineRule, PassesBy, StraightFits}
use Rattle.track_ways.specs.Rows.{node_line, gate_line, lines_between}
use Rattle.track_ways.specs.States.{touched_left, touched_here, is_behind, is_still_ahead}

-- from a state's last node line to the gate of a next column
abbrev pub lines_to : State → Column → List Line
lines_to s c = lines_between s.p_end s.n_end c ++ gate_line c ∷ []

-- from the tracks before a next column to those after it, by a rule
abbrev pub GoesBy : LineRule → Pins → ℕ → Kinds → State → (NetNo → ℕ) → Step → (NetNo → ℕ) → Type 0
GoesBy rule pins limit k s track step next =
    PassesBy rule pins limit (is_behind k s) track (lines_to s (column_of k step))
    (is_still_ahead k (state_after k s step)) next

-- and through the last line
abbrev pub EndsBy : LineRule → Pins → ℕ → Kinds → State → (NetNo → ℕ) → Type 0
EndsBy rule pins limit k s track =
    (last : NetNo → ℕ)
    × PassesBy rule pins limit (is_behind k s) track (node_line s.p_end s.n_end ∷ []) (λ net. false) last

-- tracks through all further columns
abbrev pub RunsBy : LineRule → Pins → ℕ → Kinds → State → (NetNo → ℕ) → List Step → Type 0
RunsBy rule pins limit k s track [] = EndsBy rule pins limit k s track
RunsBy rule pins limit k s track (step ∷ steps) =
    (next : NetNo → ℕ) × GoesBy rule pins limit k s track step next
    × RunsBy rule pins limit k (state_after k s step) next steps

-- the same where nets go straight
abbrev pub Goes : Pins → ℕ → Kinds → State → (NetNo → ℕ) → Step → (NetNo → ℕ) → Type 0
Goes = GoesBy StraightFits

abbrev pub Ends : Pins → ℕ → Kinds → State → (NetNo → ℕ) → Type 0
Ends = EndsBy StraightFits

abbrev pub Runs : Pins → ℕ → Kinds → State → (NetNo → ℕ) → List Step → Type 0
Runs = RunsBy StraightFits

-- possible next columns, one after the other, until no finger is left
abbrev pub Leads : Kinds → State → List Step → Type 0
Leads k s [] = Completes k s []
Leads k s (step ∷ steps) = IsPossible k s step × Leads k (state_after k s step) steps

-- the open ends are ends of fingers that were used
abbrev pub EndsFit : Kinds → State → Type 0
EndsFit k s = (net : NetNo) → touched_left k s net + touched_here s net ≤ touched_left k (start_of k) net
