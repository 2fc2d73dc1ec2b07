-- The first row of so many gaps, as a certificate lists it.
use Rattle.std.specs.Prelude.{ℕ, ◌≡◌, List}
use Rattle.row_state.specs.declared.kind.Kinds.{Kinds}
use Rattle.row_state.specs.declared.step.Step.{Step}
use Rattle.row_state.specs.Start.{start_of}
use Rattle.row_search.specs.Limits.{best_with}
use Rattle.row_search.specs.Steps.{row_of}
use Rattle.trail_search.specs.declared.first.ListedRow.{ListedRow}
use Rattle.trail_search.specs.Visit.{IsFirstOf}

abbrev pub listed_of : Kinds → ℕ → List Step → ListedRow
listed_of k gaps steps = record { row = row_of k steps; best = best_with k gaps steps }

-- its steps are the first completion of the start state that has no more than so many gaps
pub record IsFirstRow (k : Kinds) (gaps : ℕ) (listed : ListedRow) : Type 0 where
  pub steps : List Step
  pub is : listed ≡ listed_of k gaps steps
  pub first : IsFirstOf k (start_of k) gaps steps
