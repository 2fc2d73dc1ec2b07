use Rattle.std.proofs.Common.{◌≡◌, ◌++◌}
use Rattle.std.specs.Prelude.{take}
use Rattle.std.specs.List.{flat_map}
use Rattle.bound_log.specs.Text.{column_line}
use Rattle.order_log.proofs.write.put_columns.Given as goal

abbrev pub invariant-loop-step : goal.invariant-loop-step
invariant-loop-step l = l.out ≡ l.fn.out ++ flat_map column_line (take l.step-index l.steps)
