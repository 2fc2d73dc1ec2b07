-- The table once it has the need of the state after a column.
use Rattle.std.proofs.Common.{ℕ, ◌≡◌, ◌≤◌, subst, sym}
use Rattle.std.specs.HashMap.{hash_map_len}
use Rattle.row_state.specs.declared.kind.Kinds.{Kinds}
use Rattle.row_state.specs.declared.state.State.{State}
use Rattle.row_state.specs.declared.step.Step.{Step}
use Rattle.row_state.specs.Start.{columns_left}
use Rattle.row_state.specs.Steps.{state_after}
use Rattle.row_needs.specs.declared.needs.Needs.{Needs}
use Rattle.row_needs.specs.Best.{AddsBelow, IsGrown}
use Rattle.row_needs.specs.Need.{IsNeed}
use Rattle.row_needs.specs.Rest.{AreRests, HasRest, IsClosed}
use Rattle.row_needs.specs.Table.{AreLedTo}

-- It was `old` before the column, and `first` before all columns.
pub record HasAfter (k : Kinds) (s : State) (step : Step) (limit : ℕ) (first old new : Needs) (gaps : ℕ) : Type 0 where
  pub sound : AreRests k new
  pub closed : IsClosed k new
  pub grown : IsGrown k old new
  pub led : AreLedTo k new
  pub below : AddsBelow k (columns_left k s) first new
  pub within : hash_map_len new.rests ≤ limit
  pub here : HasRest k new (state_after k s step)
  pub need : IsNeed k (state_after k s step) gaps

pub after_same : (k : Kinds) (s : State) (step : Step) (limit : ℕ) (first old new same : Needs) (gaps number : ℕ) → new ≡ same → gaps ≡ number → HasAfter k s step limit first old same number → HasAfter k s step limit first old new gaps
after_same k s step limit first old new same gaps number is counted has = subst (λ needs. HasAfter k s step limit first old needs gaps) (sym is) (subst (HasAfter k s step limit first old same) (sym counted) has)
