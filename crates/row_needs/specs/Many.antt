-- How many different leftovers the states have that next columns lead to from the start state.
use Rattle.std.specs.Prelude.{ℕ, ◌≡◌, ◌<◌, List, [], ◌∷◌, All, AllPairs, length}
use Rattle.row_state.specs.declared.kind.Kinds.{Kinds}
use Rattle.row_state.specs.declared.state.State.{State}
use Rattle.row_state.specs.declared.step.Step.{Step}
use Rattle.row_state.specs.Start.{start_of}
use Rattle.row_state.specs.Steps.{IsPossible, state_after}

-- each column may come next after those before it
abbrev pub ComeInTurn : Kinds → State → List Step → Type 0
ComeInTurn k s [] = Unit {0}
ComeInTurn k s (step ∷ steps) = IsPossible k s step × ComeInTurn k (state_after k s step) steps

-- the state after these columns
abbrev pub state_behind : Kinds → State → List Step → State
state_behind k s [] = s
state_behind k s (step ∷ steps) = state_behind k (state_after k s step) steps

-- next columns lead to the state from the start state
pub record IsLedTo (k : Kinds) (s : State) : Type 0 where
  pub steps : List Step
  pub turn : ComeInTurn k (start_of k) steps
  pub behind : state_behind k (start_of k) steps ≡ s

-- as many fingers of each kind are left
abbrev pub SameLeft : State → State → Type 0
SameLeft a b = (a.p_left ≡ b.p_left) × (a.n_left ≡ b.n_left)

-- the states that next columns lead to have more different leftovers than the limit
pub record ManyRests (k : Kinds) (limit : ℕ) : Type 0 where
  pub states : List State
  pub led : All (IsLedTo k) states
  pub apart : AllPairs (λ a b. SameLeft a b → ⊥) states
  pub more : limit < length states
