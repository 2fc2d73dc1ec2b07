-- What holds of the gaps that are left after a next column.
use Rattle.std.specs.Prelude.{ℕ, ◌≡◌, ◌+◌}
use Rattle.row_state.specs.declared.kind.Kinds.{Kinds}
use Rattle.row_state.specs.declared.state.State.{State}
use Rattle.row_state.specs.declared.step.Step.{Step}
use Rattle.row_state.specs.Completion.{cost_of}
use Rattle.row_state.specs.Steps.{IsPossible, column_of}

-- where the column may come next and does not cost more than the gaps, this holds of the gaps that are left
abbrev pub IfLeft : Kinds → State → ℕ → Step → (ℕ → Type 0) → Type 0
IfLeft k s gaps step P =
    (left : ℕ) → IsPossible k s step → cost_of s (column_of k step) + left ≡ gaps → P left
