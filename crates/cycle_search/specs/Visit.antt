-- What one visit of a state promises.
use Rattle.std.specs.Prelude.{ℕ, ◌≡◌, ◌+◌, ◌*◌, ◌/◌, ◌%◌, ◌≤◌, ◌⊎◌, ◌++◌, List, All, Contains, length, map}
use Rattle.cell_num.specs.declared.finger.Row.{Row}
use Rattle.cell_num.specs.declared.net.Pins.{Pins}
use Rattle.row_state.specs.declared.kind.Kinds.{Kinds}
use Rattle.row_state.specs.declared.state.State.{State}
use Rattle.row_state.specs.declared.step.Step.{Step}
use Rattle.row_state.specs.Candidates.{IsNumbered}
use Rattle.row_state.specs.Completion.{cost_of, further_gaps}
use Rattle.row_state.specs.Order.{RowBefore}
use Rattle.row_state.specs.Start.{HasFingers}
use Rattle.row_state.specs.Steps.{IsPossible, column_of, state_after}
use Rattle.track_ways.specs.Paths.{Leads}
use Rattle.track_ways.specs.Rows.{lines_behind}
use Rattle.row_cycles.specs.declared.above.NetAbove.{NetAbove}
use Rattle.cycle_search.specs.declared.ahead.Ahead.{Ahead}
use Rattle.row_cycles.specs.declared.lemma.CycleLemma.{CycleLemma}
use Rattle.cycle_search.specs.declared.progress.Progress.{Progress}
use Rattle.row_cycles.specs.Above.{HasCycle, above_end, above_of, above_step}
use Rattle.row_cycles.specs.Noted.{AreNoted}
use Rattle.cycle_search.specs.Below.{IsAsked}
use Rattle.cycle_search.specs.Search.{AreKept}

abbrev pub lemma_at : State → ℕ → List NetAbove → CycleLemma
lemma_at s gaps above = record { state = s; gaps = gaps; above = above }

-- a pair as a number below 65536, and back
abbrev pub number_of : NetAbove → ℕ
number_of a = (a.upper.0 % 256) * 256 + a.lower.0 % 256

abbrev pub pair_of : ℕ → NetAbove
pair_of number = record { upper = record { 0 = number / 256 }; lower = record { 0 = number % 256 } }

-- the same pairs
pub record AreSame (above other : List NetAbove) : Type 0 where
  pub to : All (Contains other) above
  pub from : All (Contains above) other

-- the steps complete the state with at most that many further gaps, and what their lines ask for closes no cycle with
-- these
pub record IsFree (pins : Pins) (k : Kinds) (s : State) (above : List NetAbove) (gaps : ℕ) (steps : List Step)
    : Type 0 where
  pub leads : Leads k s steps
  pub within : further_gaps s (map (column_of k) steps) ≤ gaps
  pub free : HasCycle (above ++ above_of pins (lines_behind s.p_end s.n_end (map (column_of k) steps))) → ⊥

-- and no others precede them
pub record IsFirstFree (pins : Pins) (k : Kinds) (s : State) (above : List NetAbove) (gaps : ℕ) (steps : List Step)
    : Type 0 where
  pub is : IsFree pins k s above gaps steps
  pub first : (other : List Step) → IsFree pins k s above gaps other
      → (map (column_of k) steps ≡ map (column_of k) other)
      ⊎ RowBefore (map (column_of k) steps) (map (column_of k) other)

-- the state after a column, with that many gaps left, and what the lines up to there ask for
pub record IsOpen (pins : Pins) (k : Kinds) (s : State) (above : List NetAbove) (left : ℕ) (step : Step) (ahead : Ahead)
    : Type 0 where
  pub numbered : IsNumbered k ahead.state
  pub state : ahead.state.state ≡ state_after k s step
  pub gaps : ahead.left ≡ left
  pub new : ahead.new ≡ above_step pins k s step
  pub onward : ahead.asked.pairs ≡ above ++ above_step pins k s step
  pub asked : IsAsked k.nets ahead.asked

-- it may come next, and the gaps suffice
pub record IsAhead (pins : Pins) (k : Kinds) (s : State) (above : List NetAbove) (allowed : ℕ) (step : Step)
    (ahead : Ahead) : Type 0 where
  pub possible : IsPossible k s step
  pub left : cost_of s (column_of k step) + ahead.left ≡ allowed
  pub is : IsOpen pins k s above ahead.left step ahead

-- no finger is left, and the last line closes no cycle
pub record EndsFree (pins : Pins) (k : Kinds) (s : State) (above : List NetAbove) : Type 0 where
  pub none : HasFingers k s → ⊥
  pub free : HasCycle (above ++ above_end pins s) → ⊥

-- lemmas of a search are kept, no more of them than the budget, and noted
pub record IsKept
    (value : Row → State → Kinds → ℕ) (pins : Pins) (k : Kinds) (gaps budget : ℕ) (progress : Progress)
    : Type 0 where
  pub kept : AreKept value pins k gaps progress.lemmas
  pub few : length progress.lemmas ≤ budget
  pub noted : AreNoted k progress.lemmas progress.places

-- more lemmas after those before
pub record IsGrown (before after : Progress) : Type 0 where
  pub more : List CycleLemma
  pub is : after.lemmas ≡ before.lemmas ++ more
