-- Tracks of pieces along a path of states: those of the nets that are open after a state go on through its next
-- columns.
use Rattle.std.specs.Prelude.{ℕ, List}
use Rattle.cell_num.specs.declared.net.NetNo.{NetNo}
use Rattle.cell_num.specs.declared.net.Pins.{Pins}
use Rattle.row_state.specs.declared.kind.Kinds.{Kinds}
use Rattle.row_state.specs.declared.state.State.{State}
use Rattle.row_state.specs.declared.step.Step.{Step}
use Rattle.track_ways.specs.Paths.{EndsBy, GoesBy, RunsBy}
use Rattle.piece_lines.specs.Lines.{PieceLineFits}

-- from the tracks before a next column to those after it
abbrev pub PieceGoes : Pins → ℕ → Kinds → State → (NetNo → ℕ) → Step → (NetNo → ℕ) → Type 0
PieceGoes = GoesBy PieceLineFits

-- and through the last line
abbrev pub PieceEnds : Pins → ℕ → Kinds → State → (NetNo → ℕ) → Type 0
PieceEnds = EndsBy PieceLineFits

-- tracks through all further columns
abbrev pub PieceRuns : Pins → ℕ → Kinds → State → (NetNo → ℕ) → List Step → Type 0
PieceRuns = RunsBy PieceLineFits
