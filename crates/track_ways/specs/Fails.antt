-- States from which no completion with that many further gaps has tracks below a limit.
use Rattle.std.specs.Prelude.{ℕ, ◌≤◌, List, map}
use Rattle.cell_num.specs.declared.net.NetNo.{NetNo}
use Rattle.cell_num.specs.declared.net.Pins.{Pins}
use Rattle.row_state.specs.declared.kind.Kinds.{Kinds}
use Rattle.row_state.specs.declared.state.State.{State}
use Rattle.row_state.specs.declared.step.Step.{Step}
use Rattle.row_state.specs.Completion.{further_gaps}
use Rattle.row_state.specs.Steps.{column_of}
use Rattle.track_ways.specs.Lines.{LineRule, StraightFits}
use Rattle.track_ways.specs.Paths.{Leads, RunsBy}

-- by a rule, no completion of the state with at most that many further gaps has tracks that go on from these
abbrev pub FailsBy : LineRule → Pins → ℕ → Kinds → State → (NetNo → ℕ) → ℕ → Type 0
FailsBy rule pins limit k s track gaps =
    (steps : List Step) → Leads k s steps → further_gaps s (map (column_of k) steps) ≤ gaps
    → RunsBy rule pins limit k s track steps → ⊥

-- none has where nets go straight
abbrev pub Fails : Pins → ℕ → Kinds → State → (NetNo → ℕ) → ℕ → Type 0
Fails = FailsBy StraightFits
