-- The need of a state.
use Rattle.std.specs.Prelude.{ℕ, ◌≡◌, List}
use Rattle.row_model.specs.declared.column.Column.{Column}
use Rattle.row_state.specs.declared.kind.Kinds.{Kinds}
use Rattle.row_state.specs.declared.state.State.{State}
use Rattle.row_state.specs.Completion.{Completes, Need, further_gaps}

-- the fewest further gaps of its completions: none has fewer, and this row has so many
pub record IsNeed (k : Kinds) (s : State) (need : ℕ) : Type 0 where
  pub least : Need k s need
  pub row : List Column
  pub completes : Completes k s row
  pub reached : further_gaps s row ≡ need
