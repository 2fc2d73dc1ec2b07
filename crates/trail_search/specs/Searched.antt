-- What the units of a search for a row went for: bounds of states, and attempts by trails to refute states.
use Rattle.std.specs.Prelude.{ℕ, ◌≤◌, ◌<◌, ◌+◌, ◌-◌, ◌/◌, ◌==◌, ◌≢◌, ◌++◌, Bool, true, false, IsTrue}
use Rattle.std.specs.Prelude.{List, All, AllPairs, if◌then◌else◌, length, sum_by}
use Rattle.cell_num.specs.declared.net.NetNo.{NetNo}
use Rattle.row_state.specs.declared.kind.Kinds.{Kinds}
use Rattle.row_state.specs.declared.state.State.{State}
use Rattle.row_state.specs.Completion.{Need}
use Rattle.row_state.specs.Start.{IsState}
use Rattle.row_search.specs.Reached.{IsReached}
use Rattle.trail_search.specs.Proof.{Attempt, IsAttempt, attempt_units}
use Rattle.trail_search.specs.Behind.{fingers_behind}
use Rattle.trail_search.specs.declared.attempts.Attempts.{Attempts}
use Rattle.trail_search.specs.declared.attempts.Attempts.TheVariants.{AtOnce, InSecondHalf, Never}

-- A prefix of some arrangement has the state. Its gaps and the bound are at most `most`.
pub record IsStateWithin (k : Kinds) (most : ℕ) (s : State) (bound : ℕ) : Type 0 where
  pub gaps : ℕ
  pub reached : IsReached k s gaps
  pub within : gaps + bound ≤ most

-- so many further gaps of a state
pub record Bounded : Type 0 where
  pub state : State
  pub bound : ℕ

-- every completion of the valid state has as many, which is from one to so many
pub record IsBounded (k : Kinds) (most : ℕ) (b : Bounded) : Type 0 where
  pub valid : IsState k b.state
  pub some : 0 < b.bound
  pub few : b.bound ≤ most
  pub need : Need k b.state b.bound

-- an attempt at a state
pub record Try : Type 0 where
  pub state : State
  pub attempt : Attempt

-- the bound is of such a state
abbrev pub IsBoundWithin : Kinds → ℕ → Bounded → Type 0
IsBoundWithin k most b = IsStateWithin k most b.state b.bound

-- attempts may be made; the lemmas of this one are of the fingers of the state
pub record IsTry (k : Kinds) (may_try : Bool) (t : Try) : Type 0 where
  pub may : IsTrue may_try
  pub valid : IsState k t.state
  pub attempt : IsAttempt (fingers_behind k t.state) t.attempt

-- the attempt is to show that such a state has more further gaps than its limit
abbrev pub IsTryWithin : Kinds → ℕ → Try → Type 0
IsTryWithin k most t = IsStateWithin k most t.state (t.attempt.limit + 1)

abbrev pub tried_units : Kinds → Try → ℕ
tried_units k t = attempt_units (fingers_behind k t.state) t.attempt

-- none where one of the gates is left open
abbrev pub attempts_by : List NetNo → Attempts
attempts_by opened = if length opened == 0 then AtOnce else Never

-- attempts are made with some of the units
abbrev pub may_try : Attempts → Bool
may_try Never = false
may_try _ = true

-- the units that are spent before attempts are made
abbrev pub plain_units : Attempts → ℕ → ℕ
plain_units Never units = units
plain_units AtOnce units = 0
plain_units InSecondHalf units = units / 2

-- The units went for a row. Those before attempts, except so many others, went for the bounds `plain`. The rest,
-- except as many others, went for the bounds `later` and for attempts: one for each of these bounds at most, and so
-- many others. The bounds are of states that rows reach, and no two of all of them are alike.
pub record WentForRow (k : Kinds) (attempts : Attempts) (most units others : ℕ) : Type 0 where
  pub plain : List Bounded
  pub later : List Bounded
  pub tries : List Try
  pub different : AllPairs (λ (a b : Bounded). a ≢ b) (plain ++ later)
  pub each : All (IsBounded k most) (plain ++ later)
  pub within : All (IsBoundWithin k most) (plain ++ later)
  pub tried : All (IsTry k (may_try attempts)) tries
  pub tried_within : All (IsTryWithin k most) tries
  pub before : plain_units attempts units ≤ length plain + others
  pub few : length tries ≤ length later + others
  pub rest : units - plain_units attempts units ≤ length later + sum_by (tried_units k) tries + others
