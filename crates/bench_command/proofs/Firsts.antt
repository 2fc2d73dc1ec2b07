-- Fingers have one first least arrangement at most.
use Rattle.std.specs.Prelude.{◌≡◌, List}
use Rattle.std.proofs.Common.{sym, arith}
use Rattle.cell_num.specs.declared.finger.Fingers.{Fingers}
use Rattle.row_model.specs.declared.column.Column.{Column}
use Rattle.row_model.specs.Gaps.{gaps_of}
use Rattle.row_search.specs.First.{IsFirstLeast}
use Rattle.cell_make.proofs.RowOrder.{one_row}

pub one_first : (f : Fingers) (a b : List Column) → IsFirstLeast f a → IsFirstLeast f b → a ≡ b
one_first f a b first second =
    let same : gaps_of b ≡ gaps_of a = omega (arith, first.least b second.arranges, second.least a first.arranges) in
    one_row a b (first.first b second.arranges same) (second.first a first.arranges (sym same))
