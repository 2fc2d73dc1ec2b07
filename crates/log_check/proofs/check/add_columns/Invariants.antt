use Rattle.std.proofs.Common.{ℕ, ◌≡◌, take}
use Rattle.cell_num.specs.declared.finger.Row.{Row}
use Rattle.row_state.specs.declared.kind.Kinds.{Kinds}
use Rattle.row_state.specs.declared.state.State.{State}
use Rattle.bound_log.specs.declared.log.Log.{Log}
use Rattle.log_check.specs.Items.{HasSeen, with_columns}
use Rattle.log_check.proofs.check.add_columns.Given as goal

abbrev pub invariant-loop-step : goal.invariant-loop-step
invariant-loop-step l =
    ((value : Row → State → Kinds → ℕ) (log : Log) → HasSeen value l.fn.seen log → HasSeen value l.seen (with_columns log (take l.step-index l.steps)))
    × (l.seen.fingers ≡ l.fn.seen.fingers)
