-- Best bounds of states, as they are kept.
use Rattle.std.specs.Prelude.{ℕ, ◌≡◌, List, Option, nat_eq, unwrap_or}
use Rattle.std.specs.HashMap.{get}
use Rattle.std.specs.Map.{lookup}
use Rattle.row_state.specs.declared.kind.Kinds.{Kinds}
use Rattle.row_state.specs.declared.state.State.{State}
use Rattle.row_state.specs.Code.{state_code}
use Rattle.row_state.specs.Start.{IsState}
use Rattle.bound_log.specs.declared.log.Lemma.{Lemma}
use Rattle.lemma_check.specs.declared.known.Known.{Known}
use Rattle.lemma_check.specs.Reaches.{best_of}

-- the bound that a table by numbers of states has of the state, 0 if none
abbrev pub bound_in : (ℕ → Option ℕ) → Kinds → State → ℕ
bound_in table k s = unwrap_or (table (state_code k s)) 0

-- what is kept is a function: for some kinds, from states to their best bounds so far
abbrev pub best_known : Known → Kinds → State → ℕ
best_known known = bound_in (get nat_eq known.bounds)

-- the numbers of states with their best bounds, in the order in which they are kept
abbrev pub noted : Known → List (ℕ × ℕ)
noted known = known.bounds.entries

abbrev pub best_noted : List (ℕ × ℕ) → Kinds → State → ℕ
best_noted bounds = bound_in (λ number. lookup (nat_eq number) bounds)

-- what is kept of each valid state is its best bound in the lemmas
abbrev pub Knows : Kinds → Known → List Lemma → Type 0
Knows k known lemmas = (s : State) → IsState k s → best_known known k s ≡ best_of s lemmas
