-- Completions that leave no line crowded.
use Rattle.std.proofs.Common.{ℕ, true, ◌≡◌, ◌≤◌, [], ◌∷◌, map, subst, arith}
use Rattle.cell_num.specs.declared.net.Pins.{Pins}
use Rattle.row_state.specs.declared.kind.Kinds.{Kinds}
use Rattle.row_state.specs.declared.state.State.{State}
use Rattle.row_state.specs.declared.step.Step.{Step}
use Rattle.row_state.specs.Start.{HasFingers}
use Rattle.row_state.specs.Steps.{column_of, state_after}
use Rattle.row_state.proofs.Unfold.{further_step}
use Rattle.track_ways.specs.Crowds.{end_uncrowded}
use Rattle.row_cycles.proofs.Completions.{complete_end}
use Rattle.track_search.specs.declared.ahead.Ahead.{Ahead}
use Rattle.track_search.specs.Uncrowded.{HasUncrowded}
use Rattle.track_search.specs.Visit.{IsAhead}

pub uncrowded_wider : (pins : Pins) (limit : ℕ) (k : Kinds) (s : State) (gaps more : ℕ) → gaps ≤ more → HasUncrowded pins limit k s gaps → HasUncrowded pins limit k s more
uncrowded_wider pins limit k s gaps more le has = record { steps = has.steps; leads = has.leads; within = omega (arith, has.within, le); free = has.free }

pub uncrowded_end : (pins : Pins) (limit : ℕ) (k : Kinds) (s : State) (gaps : ℕ) → (HasFingers k s → ⊥) → end_uncrowded pins limit k s ≡ true → HasUncrowded pins limit k s gaps
uncrowded_end pins limit k s gaps done free = record { steps = []; leads = complete_end k s done; within = omega arith; free = free }

-- a completion of the state after a next column
pub uncrowded_through : (pins : Pins) (limit : ℕ) (k : Kinds) (s : State) (allowed : ℕ) (step : Step) (ahead : Ahead) → IsAhead pins limit k s allowed step ahead → HasUncrowded pins limit k ahead.state.state ahead.left → HasUncrowded pins limit k s allowed
uncrowded_through pins limit k s allowed step ahead a has =
    let after : HasUncrowded pins limit k (state_after k s step) ahead.left = subst (λ (z : State). HasUncrowded pins limit k z ahead.left) a.state has in
    record {
      steps = step ∷ after.steps;
      leads = (a.possible, after.leads);
      within = omega (arith, further_step k s step (map (column_of k) after.steps), after.within, a.left);
      free = (a.free, after.free);
    }
