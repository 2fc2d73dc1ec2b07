-- What counts of the lines along a path of states.
use Rattle.std.specs.Prelude.{ℕ, false, List, [], ◌∷◌, ◌++◌}
use Rattle.cell_num.specs.declared.net.NetNo.{NetNo}
use Rattle.cell_num.specs.declared.net.Pins.{Pins}
use Rattle.row_state.specs.declared.kind.Kinds.{Kinds}
use Rattle.row_state.specs.declared.state.State.{State}
use Rattle.row_state.specs.declared.step.Step.{Step}
use Rattle.row_state.specs.Steps.{column_of, state_after}
use Rattle.track_ways.specs.Rows.{node_line}
use Rattle.track_ways.specs.States.{is_behind, is_still_ahead}
use Rattle.track_ways.specs.Paths.{lines_to}
use Rattle.line_widths.specs.Borders.{Border, borders_of}

-- from a state's last node line to the gate of a next column
abbrev pub borders_to : Pins → Kinds → State → (NetNo → ℕ) → Step → List Border
borders_to pins k s track step =
    borders_of pins track (is_behind k s) (lines_to s (column_of k step)) (is_still_ahead k (state_after k s step))

-- from a state's last node line to the last line
abbrev pub borders_behind : Pins → Kinds → State → (NetNo → ℕ) → List Step → List Border
borders_behind pins k s track [] = borders_of pins track (is_behind k s) (node_line s.p_end s.n_end ∷ []) (λ net. false)
borders_behind pins k s track (step ∷ steps) =
    borders_to pins k s track step ++ borders_behind pins k (state_after k s step) track steps
