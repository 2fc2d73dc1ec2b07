-- The units of a budget: each state that is looked at takes some.
use Rattle.std.specs.Prelude.{ℕ, ◌+◌, ◌/◌, List, Option, Some, None, length, slice_get, sum_by}
use Rattle.end_lemmas.specs.declared.lemma.EndLemma.{EndLemma}
use Rattle.end_lemmas.specs.Steps.{Steps}

module _ {L C S : Type 0} (steps : Steps L C S) where
  -- one for a state before the level, and one for each 64 choices
  abbrev pub level_units : L → ℕ
  level_units level = 1 + length (steps.choices level) / 64

  -- no choice is left after the last level
  abbrev pub visit_units : Option L → ℕ
  visit_units None = 1
  visit_units (Some level) = level_units level

  -- a state after so many levels
  unfoldable pub units_at : List L → ℕ → ℕ
  units_at levels done = visit_units (slice_get levels done)

  -- a state for each lemma
  unfoldable pub units_of : List L → List (EndLemma S) → ℕ
  units_of levels lemmas = sum_by (λ (l : EndLemma S). units_at levels l.done) lemmas

  -- a state before each level
  unfoldable pub path_units : List L → ℕ
  path_units levels = sum_by level_units levels
