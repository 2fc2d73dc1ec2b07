-- Tests that compute the facts of an arrangement.
use Rattle.std.specs.Prelude.{◌||◌, ◌&&◌, ◌==◌, Bool, false, not, List, Option, Some, None, length, count_by}
use Rattle.std.specs.List.{list_all}
use Rattle.cell_num.specs.declared.finger.Row.TheVariants.{P, N}
use Rattle.cell_num.specs.declared.finger.Finger.{Finger}
use Rattle.cell_num.specs.declared.finger.Fingers.{Fingers}
use Rattle.cell_num.specs.Fingers.{columns_of}
use Rattle.cell_num.specs.Tests.{same_row}
use Rattle.row_model.specs.declared.column.Placed.{Placed}
use Rattle.row_model.specs.declared.column.Column.{Column}
use Rattle.row_model.specs.Arrangement.{fingers_in}

abbrev pub same_finger : Finger → Finger → Bool
same_finger a b = same_row a.row b.row && (a.gate.0 == b.gate.0) && (a.lo.0 == b.lo.0) && (a.hi.0 == b.hi.0)
    && (a.width == b.width)

abbrev pub has_same_fingers : List Finger → List Finger → Bool
has_same_fingers xs ys = (length ys == length xs)
    && list_all (λ x. count_by (same_finger x) ys == count_by (same_finger x) xs) xs

abbrev pub placed_test : Placed → Bool
placed_test x = not (x.finger.lo.0 == x.finger.hi.0) || not x.flipped

abbrev pub column_test : Option Placed → Option Placed → Bool
column_test None None = false
column_test (Some x) None = placed_test x
column_test None (Some y) = placed_test y
column_test (Some x) (Some y) = (x.finger.gate.0 == y.finger.gate.0) && placed_test x && placed_test y

abbrev pub arrangement_test : List Column → Fingers → Bool
arrangement_test row f = list_all (λ c. column_test c.p c.n) row && has_same_fingers f.p (fingers_in P row)
    && has_same_fingers f.n (fingers_in N row) && (length row == columns_of f)
