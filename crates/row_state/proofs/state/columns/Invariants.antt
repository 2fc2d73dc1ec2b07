use Rattle.std.proofs.Common.{◌≡◌, ◌*◌, ◌≤◌}
use Rattle.cell_num.specs.Fingers.{sum_below}
use Rattle.row_state.specs.Tests.{columns_test}
use Rattle.row_state.proofs.state.columns.Given as goal

abbrev pub invariant-loop-gate : goal.invariant-loop-gate
invariant-loop-gate l = (l.total ≡ sum_below (columns_test l.kinds) l.gate) × (l.total ≤ 64 * l.gate)
