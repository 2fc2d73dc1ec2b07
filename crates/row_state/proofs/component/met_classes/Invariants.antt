use Rattle.std.proofs.Common.{ℕ, ◌≡◌, false, drop, get_or, length}
use Rattle.cell_num.specs.declared.finger.Row.{Row}
use Rattle.row_trails.specs.Counts.{entry}
use Rattle.row_state.specs.Completion.{fingers_left}
use Rattle.row_state.specs.Component.{has_finger}
use Rattle.row_state.proofs.component.met_classes.Given as goal

abbrev pub invariant-loop-at : goal.invariant-loop-at
invariant-loop-at l =
    (length l.met ≡ 256)
    × ((row : Row) (h : ℕ) → get_or l.met h false ≡ has_finger (entry l.classes) (fingers_left row (drop l.at l.kinds) (drop l.at l.left)) h)
