-- Completions of a state that leave no line crowded.
use Rattle.std.specs.Prelude.{ℕ, ◌≡◌, ◌≤◌, true, List, [], ◌∷◌, map}
use Rattle.cell_num.specs.declared.net.Pins.{Pins}
use Rattle.row_state.specs.declared.kind.Kinds.{Kinds}
use Rattle.row_state.specs.declared.state.State.{State}
use Rattle.row_state.specs.declared.step.Step.{Step}
use Rattle.row_state.specs.Completion.{further_gaps}
use Rattle.row_state.specs.Steps.{column_of, state_after}
use Rattle.track_ways.specs.Crowds.{end_uncrowded, step_uncrowded}
use Rattle.track_ways.specs.Paths.{Leads}

-- no line to one of the columns is crowded, nor is the last line
abbrev pub IsUncrowded : Pins → ℕ → Kinds → State → List Step → Type 0
IsUncrowded pins limit k s [] = end_uncrowded pins limit k s ≡ true
IsUncrowded pins limit k s (step ∷ steps) =
    (step_uncrowded pins limit k s step ≡ true) × IsUncrowded pins limit k (state_after k s step) steps

-- some completion of the state with at most that many further gaps leaves no line crowded
pub record HasUncrowded (pins : Pins) (limit : ℕ) (k : Kinds) (s : State) (gaps : ℕ) : Type 0 where
  pub steps : List Step
  pub leads : Leads k s steps
  pub within : further_gaps s (map (column_of k) steps) ≤ gaps
  pub free : IsUncrowded pins limit k s steps
