-- The places of each row that stay empty.
use Rattle.std.specs.Prelude.{ℕ, ◌≡◌, Option, Some, None}
use Rattle.cell_num.specs.declared.finger.Row.TheVariants.{P, N}
use Rattle.row_model.specs.declared.column.Placed.{Placed}
use Rattle.row_state.specs.declared.empty.EmptyPlaces.{EmptyPlaces}
use Rattle.row_state.specs.declared.kind.Kinds.{Kinds}
use Rattle.row_state.specs.declared.state.State.{State}
use Rattle.row_state.specs.Tests.{empty_in}

-- so many stay empty in the P row, and so many in the N row
pub record AreEmpty (k : Kinds) (s : State) (empty : EmptyPlaces) : Type 0 where
  pub p : empty.p ≡ empty_in P s k
  pub n : empty.n ≡ empty_in N s k

-- how many fingers stand in the place
abbrev pub filled : Option Placed → ℕ
filled None = 0
filled (Some x) = 1
