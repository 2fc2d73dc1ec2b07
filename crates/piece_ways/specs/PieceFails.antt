-- States from which no completion with that many further gaps has tracks of pieces below a limit.
use Rattle.std.specs.Prelude.{ℕ}
use Rattle.cell_num.specs.declared.net.NetNo.{NetNo}
use Rattle.cell_num.specs.declared.net.Pins.{Pins}
use Rattle.row_state.specs.declared.kind.Kinds.{Kinds}
use Rattle.row_state.specs.declared.state.State.{State}
use Rattle.track_ways.specs.Fails.{FailsBy}
use Rattle.piece_lines.specs.Lines.{PieceLineFits}

-- no completion of the state with at most that many further gaps has tracks of pieces that go on from these
abbrev pub PieceFails : Pins → ℕ → Kinds → State → (NetNo → ℕ) → ℕ → Type 0
PieceFails = FailsBy PieceLineFits
