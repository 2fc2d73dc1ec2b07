-- When a next column leaves a lemma justified.
use Rattle.std.specs.Prelude.{ℕ, ◌++◌, List}
use Rattle.cell_num.specs.declared.finger.Row.{Row}
use Rattle.cell_num.specs.declared.net.Pins.{Pins}
use Rattle.row_state.specs.declared.kind.Kinds.{Kinds}
use Rattle.row_state.specs.declared.state.State.{State}
use Rattle.row_state.specs.declared.step.Step.{Step}
use Rattle.row_state.specs.Steps.{state_after}
use Rattle.row_cycles.specs.Above.{above_step}
use Rattle.row_cycles.specs.Certificate.{IsRefuted}
use Rattle.row_cycles.specs.Next.{IfLeft}
use Rattle.row_cycles.specs.declared.lemma.CycleLemma.{CycleLemma}

-- with that many gaps left after the column, the state after it is refuted
abbrev pub LeftIsRefuted :
    (Row → State → Kinds → ℕ) → Pins → Kinds → List CycleLemma → CycleLemma → Step → ℕ → Type 0
LeftIsRefuted value pins k earlier lemma step left =
    IsRefuted value k earlier (state_after k lemma.state step) left (lemma.above ++ above_step pins k lemma.state step)

-- so it is where the column may come next and does not cost more than the gaps of the lemma
abbrev pub StepIsRefuted : (Row → State → Kinds → ℕ) → Pins → Kinds → List CycleLemma → CycleLemma → Step → Type 0
StepIsRefuted value pins k earlier lemma step =
    IfLeft k lemma.state lemma.gaps step (LeftIsRefuted value pins k earlier lemma step)
