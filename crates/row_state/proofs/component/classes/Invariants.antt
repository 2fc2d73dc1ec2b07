use Rattle.std.proofs.Common.{ℕ, ◌≡◌, ◌<◌, drop, get_or}
use Rattle.cell_num.specs.declared.finger.Row.{Row}
use Rattle.row_state.specs.Classes.{least_chained}
use Rattle.row_state.specs.Completion.{fingers_left}
use Rattle.row_state.proofs.component.classes.Given as goal

abbrev pub invariant-loop-at : goal.invariant-loop-at
invariant-loop-at l = (row : Row) (u : ℕ) → u < l.nets → get_or l.classes u 0 ≡ least_chained (fingers_left row (drop l.at l.kinds) (drop l.at l.left)) u
