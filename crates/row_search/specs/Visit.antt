-- What one visit of a state promises.
use Rattle.std.specs.Prelude.{ℕ, ◌≡◌, ◌≤◌, ◌<◌, ◌+◌, ◌++◌, ◌⊎◌, List, All, length}
use Rattle.cell_num.specs.declared.finger.Row.{Row}
use Rattle.row_model.specs.declared.column.Column.{Column}
use Rattle.row_state.specs.declared.kind.Kinds.{Kinds}
use Rattle.row_state.specs.declared.state.State.{State}
use Rattle.row_state.specs.declared.step.Step.{Step}
use Rattle.row_state.specs.Completion.{Completes, further_gaps}
use Rattle.row_state.specs.Order.{RowBefore}
use Rattle.row_state.specs.Start.{columns_left}
use Rattle.bound_log.specs.declared.log.Rule.{Rule}
use Rattle.bound_log.specs.declared.log.Rule.TheVariants as by
use Rattle.bound_log.specs.declared.log.Lemma.{Lemma}
use Rattle.lemma_check.specs.Reaches.{best_of}
use Rattle.log_check.specs.Accepted.{AreJustified}
use Rattle.row_search.specs.Ended.{AreDistinct, IsFirstRule, IsLean}
use Rattle.row_search.specs.Reached.{IsReached, IsWithin}
use Rattle.row_search.specs.SoFar.{KnowsAll, SoFar}
use Rattle.row_search.specs.Steps.{IsStep, row_of}

-- the first of the completions of a state that have at most that many further gaps
pub record IsFirstWithin (k : Kinds) (s : State) (allowed : ℕ) (row : List Column) : Type 0 where
  pub completes : Completes k s row
  pub within : further_gaps s row ≤ allowed
  pub first : (other : List Column) → Completes k s other → further_gaps s other ≤ allowed
      → (row ≡ other) ⊎ RowBefore row other

-- the bound of a row serves, and no earlier one
abbrev pub RowReaches : (Row → State → Kinds → ℕ) → Kinds → State → ℕ → Rule → Type 0
RowReaches value k s bound by.Branch = ⊥
RowReaches value k s bound rule = IsFirstRule value k s bound rule

-- the state is one that the limit reaches, with that many gaps still allowed
pub record IsAllowed (k : Kinds) (limit : ℕ) (s : State) (allowed : ℕ) : Type 0 where
  pub gaps : ℕ
  pub reached : IsReached k s gaps
  pub within : gaps + allowed ≤ limit

-- what holds of the lemmas of a search all the time
pub record AreKept (value : Row → State → Kinds → ℕ) (k : Kinds) (lemmas : List Lemma) : Type 0 where
  pub justified : AreJustified value k lemmas
  pub distinct : AreDistinct lemmas
  pub some : All (λ lemma. 1 ≤ lemma.bound) lemmas
  pub lean : All (IsLean value k) lemmas

-- lemmas were added, of states with fewer than n columns left
pub record IsGrown (k : Kinds) (n : ℕ) (before after : List Lemma) : Type 0 where
  pub more : List Lemma
  pub is : after ≡ before ++ more
  pub below : All (λ lemma. columns_left k lemma.state < n) more

-- a search went on from `before` to `after`, with that many gaps allowed at a state: it kept the budget, it
-- added only lemmas of states with fewer than n columns left, which each limit reaches that reaches the
-- state, and it took at least a node for each of them
pub record IsFurther (value : Row → State → Kinds → ℕ) (k : Kinds) (budget n : ℕ) (s : State) (allowed : ℕ)
    (before after : SoFar) : Type 0 where
  pub nodes : after.nodes ≤ budget
  pub lemmas : AreKept value k after.lemmas
  pub grown : IsGrown k n before.lemmas after.lemmas
  pub within : (limit : ℕ) → IsAllowed k limit s allowed → All (IsWithin k limit) before.lemmas
      → All (IsWithin k limit) after.lemmas
  pub fewer : before.nodes + length after.lemmas ≤ after.nodes + length before.lemmas

-- no completion has so few gaps, and the lemmas prove it: a node for each one that was added
pub record HasFailed (k : Kinds) (s : State) (allowed : ℕ) (before after : SoFar) : Type 0 where
  pub knows : KnowsAll k after
  pub proves : allowed < best_of s after.lemmas
  pub counted : after.nodes + length before.lemmas ≡ before.nodes + length after.lemmas

-- the first completion of as few gaps was found: a node more for each of its columns, and one at the end
pub record HasFound (k : Kinds) (s : State) (allowed : ℕ) (steps : List Step) (before after : SoFar) : Type 0 where
  pub row : IsFirstWithin k s allowed (row_of k steps)
  pub sound : All (IsStep k) steps
  pub counted : after.nodes + length before.lemmas ≡ before.nodes + length after.lemmas + length steps + 1

-- the budget is spent: at most a node more for each of the columns left
pub record HasSpent (k : Kinds) (budget : ℕ) (s : State) (before after : SoFar) : Type 0 where
  pub nodes : after.nodes ≡ budget
  pub knows : KnowsAll k after
  pub most : after.nodes + length before.lemmas ≤ before.nodes + length after.lemmas + columns_left k s
