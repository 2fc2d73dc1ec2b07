-- Fingers of which each gate has one in both rows or none, and the bounds that a search of them may rest on.
use Rattle.std.specs.Prelude.{ℕ, ◌≡◌, ◌≤◌}
use Rattle.cell_num.specs.declared.finger.Row.{Row}
use Rattle.cell_num.specs.declared.finger.Fingers.{Fingers}
use Rattle.cell_num.specs.Fingers.{columns_of, on_gate}
use Rattle.row_state.specs.declared.kind.Kinds.{Kinds}
use Rattle.row_state.specs.declared.state.State.{State}
use Rattle.row_state.specs.Completion.{Need}
use Rattle.row_state.specs.Start.{IsState}

-- at most ten columns of them
pub record ArePaired (f : Fingers) : Type 0 where
  pub single : (gate : ℕ) → on_gate gate f.p ≤ 1
  pub paired : (gate : ℕ) → on_gate gate f.n ≡ on_gate gate f.p
  pub few : columns_of f ≤ 10

-- every completion of a valid state has that many further gaps
abbrev pub IsBound : (Row → State → Kinds → ℕ) → Kinds → Type 0
IsBound value k = (row : Row) (s : State) → IsState k s → Need k s (value row s k)

-- no search of such fingers takes that many nodes
abbrev pub nodes_enough : ℕ
nodes_enough = 184341
