-- States from which no completion with tracks below a limit is as narrow as that.
use Rattle.std.specs.Prelude.{ℕ, ◌≡◌, ◌<◌, ◌≤◌, ◌||◌, Bool, true, false, List, [], ◌∷◌, Option, Some, None, map, sum}
use Rattle.cell_num.specs.declared.net.NetNo.{NetNo}
use Rattle.cell_num.specs.declared.net.Pins.{Pins}
use Rattle.row_state.specs.declared.kind.Kinds.{Kinds}
use Rattle.row_state.specs.declared.state.State.{State}
use Rattle.row_state.specs.declared.step.Step.{Step}
use Rattle.row_state.specs.Completion.{further_gaps}
use Rattle.row_state.specs.Steps.{column_of, state_after}
use Rattle.track_ways.specs.declared.line.Line.{Line}
use Rattle.track_ways.specs.Lines.{LineFits, is_ahead, with_line}
use Rattle.track_ways.specs.Rows.{node_line}
use Rattle.track_ways.specs.States.{is_behind, is_open_at, is_still_ahead}
use Rattle.track_ways.specs.Paths.{Leads, lines_to}
use Rattle.line_widths.specs.Borders.{Border, spaces_from, spaces_of}
use Rattle.line_widths.specs.StateBorders.{borders_behind}

-- One track for each net fits some lines; `before` and `after` have the nets with a place before them and after them.
abbrev pub FitsLines : Pins → ℕ → (NetNo → ℕ) → (NetNo → Bool) → List Line → (NetNo → Bool) → Type 0
FitsLines pins limit track before [] after = Unit {0}
FitsLines pins limit track before (line ∷ rest) after =
    LineFits pins limit track before line (λ net. is_ahead rest net || after net)
    × FitsLines pins limit track (with_line before line) rest after

-- it fits the lines from a state's last node line to the gate of a next column
abbrev pub FitsTo : Pins → ℕ → Kinds → State → (NetNo → ℕ) → Step → Type 0
FitsTo pins limit k s track step =
    FitsLines pins limit track (is_behind k s) (lines_to s (column_of k step)) (is_still_ahead k (state_after k s step))

-- it fits the last line
abbrev pub FitsEnd : Pins → ℕ → Kinds → State → (NetNo → ℕ) → Type 0
FitsEnd pins limit k s track =
    FitsLines pins limit track (is_behind k s) (node_line s.p_end s.n_end ∷ []) (λ net. false)

abbrev pub FitsBehind : Pins → ℕ → Kinds → State → (NetNo → ℕ) → List Step → Type 0
FitsBehind pins limit k s track [] = FitsEnd pins limit k s track
FitsBehind pins limit k s track (step ∷ steps) =
    FitsTo pins limit k s track step × FitsBehind pins limit k (state_after k s step) track steps

-- the tracks are the same for the nets that are open at the state
abbrev pub AreSameAt : Pins → Kinds → State → (NetNo → ℕ) → (NetNo → ℕ) → Type 0
AreSameAt pins k s track other = (net : NetNo) → is_open_at pins k s net ≡ true → other net ≡ track net

-- the spaces of these lines, with the one before them where a line is there
abbrev pub spaces_after : Option Border → List Border → List ℕ
spaces_after None borders = spaces_of borders
spaces_after (Some last) borders = spaces_from last borders

-- the last of a line and those behind it
abbrev pub last_of : Option Border → List Border → Option Border
last_of last [] = last
last_of last (border ∷ rest) = last_of (Some border) rest

-- two last lines that count alike for the lines behind them: the trunks that begin there don't count
abbrev pub CountAlike : Option Border → Option Border → Type 0
CountAlike None None = Unit {0}
CountAlike (Some a) (Some b) = (a.ended ≡ b.ended) × (a.gate ≡ b.gate) × (a.contact ≡ b.contact)
CountAlike _ _ = ⊥

-- Each completion of the state with at most that many further gaps, and tracks below the limit that are these for its
-- open nets, takes more than the width behind the last gate line.
abbrev pub IsTooWide : Pins → ℕ → Kinds → State → (NetNo → ℕ) → Option Border → ℕ → ℕ → Type 0
IsTooWide pins limit k s track last gaps width =
    (steps : List Step) (of : NetNo → ℕ) → Leads k s steps → further_gaps s (map (column_of k) steps) ≤ gaps
    → AreSameAt pins k s track of → FitsBehind pins limit k s of steps
    → width < sum (spaces_after last (borders_behind pins k s of steps))
