-- The first least arrangement.
use Rattle.std.specs.Prelude.{◌≡◌, ◌≤◌, ◌⊎◌, List}
use Rattle.cell_num.specs.declared.finger.Fingers.{Fingers}
use Rattle.row_model.specs.declared.column.Column.{Column}
use Rattle.row_model.specs.Arrangement.{IsArrangement}
use Rattle.row_model.specs.Gaps.{gaps_of}
use Rattle.row_state.specs.Order.{RowBefore}

-- no arrangement has fewer gaps, and the row comes before every other one that has as few
pub record IsFirstLeast (f : Fingers) (row : List Column) : Type 0 where
  pub arranges : IsArrangement row f
  pub least : (other : List Column) → IsArrangement other f → gaps_of row ≤ gaps_of other
  pub first : (other : List Column) → IsArrangement other f → gaps_of other ≡ gaps_of row
      → (row ≡ other) ⊎ RowBefore row other
