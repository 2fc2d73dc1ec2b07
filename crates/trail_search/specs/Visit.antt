-- What one visit of a state promises.
use Rattle.std.specs.Prelude.{ℕ, ◌≡◌, ◌≢◌, ◌≤◌, ◌<◌, ◌+◌, Bool, List, All, AllPairs, length, sum_by}
use Rattle.row_state.specs.declared.kind.Kinds.{Kinds}
use Rattle.row_state.specs.declared.state.State.{State}
use Rattle.row_state.specs.declared.step.Step.{Step}
use Rattle.row_state.specs.Completion.{Need}
use Rattle.row_state.specs.Start.{IsState, columns_left}
use Rattle.lemma_check.specs.declared.known.Known.{Known}
use Rattle.lemma_check.specs.Known.{best_known}
use Rattle.row_search.specs.Steps.{IsStep, row_of}
use Rattle.row_search.specs.Visit.{IsFirstWithin}
use Rattle.trail_search.specs.Searched.{Bounded, IsBounded, IsStateWithin, IsBoundWithin, IsTryWithin, IsTry, Try}
use Rattle.trail_search.specs.Searched.{tried_units}
use Rattle.cell_num.specs.declared.halt.Halt.{Halt}
use Rattle.cell_num.specs.declared.halt.Halt.TheVariants as halted

-- every completion of a valid state has as many further gaps as is known of the state
abbrev pub AreTrue : Kinds → Known → Type 0
AreTrue k known = (s : State) → IsState k s → Need k s (best_known known k s)

-- the steps are columns, and their row is the first completion with as few further gaps as are allowed
pub record IsFirstOf (k : Kinds) (s : State) (allowed : ℕ) (steps : List Step) : Type 0 where
  pub row : IsFirstWithin k s allowed (row_of k steps)
  pub sound : All (IsStep k) steps

-- where the units are spent, none is left
abbrev pub Halts : ℕ → Halt → Type 0
Halts left halted.Spent = left ≡ 0
Halts left halted.NoMemory = Unit {0}

-- where a row reaches this state within a limit, rows reach the states of the attempts within it
abbrev pub TriesWithin : Kinds → State → ℕ → List Try → Type 0
TriesWithin k s bound tries = (most : ℕ) → IsStateWithin k most s bound → All (IsTryWithin k most) tries

-- and those of the bounds
abbrev pub BoundsWithin : Kinds → State → ℕ → List Bounded → Type 0
BoundsWithin k s bound bounds = (most : ℕ) → IsStateWithin k most s bound → All (IsBoundWithin k most) bounds

-- one attempt at most took the units
pub record TriesOnce (k : Kinds) (may_try : Bool) (s : State) (bound left left_after : ℕ) : Type 0 where
  pub tries : List Try
  pub tried : All (IsTry k may_try) tries
  pub tried_within : TriesWithin k s bound tries
  pub few : length tries ≤ 1
  pub many : left ≤ left_after + sum_by (tried_units k) tries

-- a bound that came to be known, of a state with fewer than n columns left
pub record IsRaised (k : Kinds) (n most : ℕ) (before after : Known) (b : Bounded) : Type 0 where
  pub is : IsBounded k most b
  pub unknown : best_known before k b.state < b.bound
  pub known : b.bound ≤ best_known after k b.state
  pub below : columns_left k b.state < n

-- The units went for bounds that came to be known, for so many others, and for one attempt each at most.
pub record IsSpent (k : Kinds) (may_try : Bool) (n : ℕ) (s : State) (most : ℕ) (before after : Known)
    (left left_after others : ℕ) : Type 0 where
  pub grown : (s : State) → IsState k s → best_known before k s ≤ best_known after k s
  pub bounds : List Bounded
  pub tries : List Try
  pub different : AllPairs (λ (a b : Bounded). a ≢ b) bounds
  pub each : All (IsRaised k n most before after) bounds
  pub tried : All (IsTry k may_try) tries
  pub within : BoundsWithin k s most bounds
  pub tried_within : TriesWithin k s most tries
  pub few : length tries ≤ length bounds + others
  pub many : left ≤ left_after + length bounds + sum_by (tried_units k) tries + others

-- so it is where the units are spent
abbrev pub IfSpent : Halt → Type 0 → Type 0
IfSpent halted.Spent P = P
IfSpent halted.NoMemory P = Unit {0}
