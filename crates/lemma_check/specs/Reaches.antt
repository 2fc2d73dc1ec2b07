-- Which bounds a lemma's rule reaches, by the best bounds of earlier lemmas.
use Rattle.std.specs.Prelude.{ℕ, ◌≤◌, ◌+◌, Bool, true, false, ◌&&◌, ◌==◌, cond, List, Option, Some, None, max, fold}
use Rattle.std.specs.Str.{bytes_eq}
use Rattle.cell_num.specs.declared.finger.Row.{Row}
use Rattle.cell_num.specs.declared.finger.Row.TheVariants.{P, N}
use Rattle.cell_num.specs.declared.net.NetNo.{NetNo}
use Rattle.row_state.specs.declared.kind.Kinds.{Kinds}
use Rattle.row_state.specs.declared.state.State.{State}
use Rattle.row_state.specs.declared.step.Step.{Step}
use Rattle.row_state.specs.Completion.{cost_of}
use Rattle.row_state.specs.Start.{HasFingers}
use Rattle.row_state.specs.Steps.{IsPossible, column_of, state_after}
use Rattle.bound_log.specs.declared.log.Rule.{Rule}
use Rattle.bound_log.specs.declared.log.Rule.TheVariants as by
use Rattle.bound_log.specs.declared.log.Lemma.{Lemma}

abbrev pub same_end : Option NetNo → Option NetNo → Bool
same_end None None = true
same_end (Some a) (Some b) = a.0 == b.0
same_end _ _ = false

abbrev pub same_state : State → State → Bool
same_state a b = bytes_eq a.p_left b.p_left && bytes_eq a.n_left b.n_left && same_end a.p_end b.p_end
    && same_end a.n_end b.n_end

-- the best bound of s so far, with one more bound, of x
abbrev pub raised : State → ℕ → State → ℕ → ℕ
raised x bound s best = cond (same_state x s) (max best bound) best

-- with one more lemma
abbrev pub better : State → ℕ → Lemma → ℕ
better s best lemma = raised lemma.state lemma.bound s best

-- the greatest bound of a lemma with the state, 0 if none
abbrev pub best_of : State → List Lemma → ℕ
best_of s lemmas = fold (better s) 0 lemmas

-- the column's cost and the best earlier bound of the state after it reach the bound
abbrev pub StepReaches : Kinds → (State → ℕ) → State → ℕ → Step → Type 0
StepReaches k best s bound step = bound ≤ cost_of s (column_of k step) + best (state_after k s step)

-- so does each possible next column
abbrev pub BranchReaches : Kinds → (State → ℕ) → State → ℕ → Type 0
BranchReaches k best s bound = (step : Step) → IsPossible k s step → StepReaches k best s bound step

-- the bound of a row reaches the lemma's, or a finger is left and each possible next column does
abbrev pub RuleReaches : (Row → State → Kinds → ℕ) → Kinds → (State → ℕ) → Rule → State → ℕ → Type 0
RuleReaches value k best by.P s bound = bound ≤ value P s k
RuleReaches value k best by.N s bound = bound ≤ value N s k
RuleReaches value k best by.Branch s bound = HasFingers k s × BranchReaches k best s bound
