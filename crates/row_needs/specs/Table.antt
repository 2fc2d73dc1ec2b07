-- The table of the needs of a cell.
use Rattle.std.specs.Prelude.{ℕ, ◌≡◌, ◌≤◌, Option, Some, None, IsSome, nat_eq}
use Rattle.std.specs.HashMap.{get}
use Rattle.row_state.specs.declared.kind.Kinds.{Kinds}
use Rattle.row_state.specs.declared.state.State.{State}
use Rattle.row_state.specs.Completion.{Need}
use Rattle.row_state.specs.Decoded.{rows_code}
use Rattle.row_state.specs.Start.{IsState, start_of}
use Rattle.row_needs.specs.declared.needs.Needs.{Needs}
use Rattle.row_needs.specs.declared.rest.Rest.{Rest}
use Rattle.row_needs.specs.Many.{IsLedTo, ManyRests}
use Rattle.row_needs.specs.Rest.{AreRests, HasRest, IsClosed, need_at}

-- each number of the table is that of a state that next columns lead to
pub record AreLedTo (k : Kinds) (needs : Needs) : Type 0 where
  pub state : ℕ → State
  pub led : (q : ℕ) → IsSome (get nat_eq needs.rests q) → IsLedTo k (state q)
  pub number : (q : ℕ) → IsSome (get nat_eq needs.rests q) → rows_code k (state q) ≡ q

-- it has what is left in the states that next columns lead to from the start state, nothing else, and its rows with
-- the fewest gaps
pub record IsTableOf (k : Kinds) (needs : Needs) : Type 0 where
  pub rests : AreRests k needs
  pub start : HasRest k needs (start_of k)
  pub closed : IsClosed k needs
  pub led : AreLedTo k needs

-- the table of a cell, or none where next columns lead to states with more different leftovers than the limit
abbrev pub HasTable : ℕ → Kinds → Option Needs → Type 0
HasTable limit k (Some needs) = IsTableOf k needs × (ManyRests k limit → ⊥)
HasTable limit k None = ManyRests k limit

-- no completion of a state has fewer further gaps than the need by its entry
abbrev pub AreLeast : Kinds → Needs → Type 0
AreLeast k needs = (s : State) (rest : Rest) → IsState k s → get nat_eq needs.rests (rows_code k s) ≡ Some rest
    → Need k s (need_at s rest) × (rest.gaps ≤ 32)
