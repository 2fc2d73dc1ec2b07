-- The results of the limits, for the kinds of the fingers.
use Rattle.std.specs.Prelude.{ℕ, ◌≡◌, ◌≤◌, ◌+◌, List, All, length}
use Rattle.cell_num.specs.declared.finger.Row.{Row}
use Rattle.row_state.specs.declared.kind.Kinds.{Kinds}
use Rattle.row_state.specs.declared.state.State.{State}
use Rattle.row_state.specs.declared.step.Step.{Step}
use Rattle.row_state.specs.Start.{start_of}
use Rattle.bound_log.specs.declared.log.Lemma.{Lemma}
use Rattle.bound_log.specs.declared.log.Best.{Best}
use Rattle.lemma_check.specs.Reaches.{best_of}
use Rattle.row_search.specs.declared.found.FoundKept.{FoundKept}
use Rattle.row_search.specs.declared.found.StopKept.{StopKept}
use Rattle.row_search.specs.declared.found.StopKept.TheVariants.{Unfinished, NoMemory}
use Rattle.row_search.specs.Enough.{columns_in}
use Rattle.row_search.specs.Reached.{IsWithin}
use Rattle.row_search.specs.SoFar.{SoFar}
use Rattle.row_search.specs.Steps.{IsStep, row_of, steps_of}
use Rattle.row_search.specs.Visit.{AreKept, IsFirstWithin}

abbrev pub best_with : Kinds → ℕ → List Step → Best
best_with k gaps steps = record { gaps = gaps; steps = steps_of k steps }

-- the row of the steps, with the lemmas and the nodes so far
abbrev pub found_of : Kinds → SoFar → ℕ → List Step → FoundKept
found_of k p gaps steps = record {
  row = row_of k steps;
  kept = p.lemmas;
  best = best_with k gaps steps;
  nodes = p.nodes;
}

-- the lemmas prove that each row has that many gaps, and are of states that limits up to that many reach
pub record ProveGaps (value : Row → State → Kinds → ℕ) (k : Kinds) (gaps : ℕ) (lemmas : List Lemma) : Type 0 where
  pub kept : AreKept value k lemmas
  pub within : All (IsWithin k gaps) lemmas
  pub low : gaps ≤ best_of (start_of k) lemmas

-- at the limit of that many gaps the row of the steps was found; a node was taken for each lemma, for each
-- column and at the end
pub record IsFoundAt (value : Row → State → Kinds → ℕ) (k : Kinds) (budget : ℕ) (gaps : ℕ) (steps : List Step)
    (p : SoFar) : Type 0 where
  pub first : IsFirstWithin k (start_of k) gaps (row_of k steps)
  pub sound : All (IsStep k) steps
  pub lemmas : ProveGaps value k gaps p.lemmas
  pub nodes : p.nodes ≡ length p.lemmas + length steps + 1
  pub few : p.nodes ≤ budget

-- a row was found, at some limit
pub record IsFound (value : Row → State → Kinds → ℕ) (k : Kinds) (budget : ℕ) (found : FoundKept) : Type 0 where
  pub gaps : ℕ
  pub steps : List Step
  pub p : SoFar
  pub is : found ≡ found_of k p gaps steps
  pub last : IsFoundAt value k budget gaps steps p

-- the budget was spent
pub record IsOpen (value : Row → State → Kinds → ℕ) (k : Kinds) (budget : ℕ) (kept : List Lemma) (proved : ℕ) : Type 0
  where
    pub lemmas : ProveGaps value k proved kept
    pub proved_is : proved ≡ best_of (start_of k) kept
    pub many : budget ≤ length kept + columns_in k
    pub few : length kept ≤ budget

abbrev pub StopsWell : (Row → State → Kinds → ℕ) → Kinds → ℕ → StopKept → Type 0
StopsWell value k budget (Unfinished kept proved) = IsOpen value k budget kept proved
StopsWell value k budget NoMemory = Unit {0}
