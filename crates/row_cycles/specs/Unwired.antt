-- States each of whose completions has a cycle.
use Rattle.std.specs.Prelude.{ℕ, ◌≤◌, ◌++◌, List, map}
use Rattle.cell_num.specs.declared.net.Pins.{Pins}
use Rattle.row_state.specs.declared.kind.Kinds.{Kinds}
use Rattle.row_state.specs.declared.state.State.{State}
use Rattle.row_state.specs.declared.step.Step.{Step}
use Rattle.row_state.specs.Completion.{further_gaps}
use Rattle.row_state.specs.Steps.{column_of}
use Rattle.track_ways.specs.Paths.{Leads}
use Rattle.track_ways.specs.Rows.{lines_behind}
use Rattle.row_cycles.specs.Above.{HasCycle, above_of}
use Rattle.row_cycles.specs.declared.above.NetAbove.{NetAbove}
use Rattle.row_cycles.specs.declared.lemma.CycleLemma.{CycleLemma}

-- each completion of the state with at most that many further gaps has a cycle: of what its lines ask for, and of these
abbrev pub AreCyclic : Pins → Kinds → State → ℕ → List NetAbove → Type 0
AreCyclic pins k s gaps above =
    (steps : List Step) → Leads k s steps → further_gaps s (map (column_of k) steps) ≤ gaps
    → HasCycle (above ++ above_of pins (lines_behind s.p_end s.n_end (map (column_of k) steps)))

abbrev pub IsTrueOf : Pins → Kinds → CycleLemma → Type 0
IsTrueOf pins k lemma = AreCyclic pins k lemma.state lemma.gaps lemma.above
