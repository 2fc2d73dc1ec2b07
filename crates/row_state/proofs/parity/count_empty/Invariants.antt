use Rattle.std.proofs.Common.{◌≡◌, ◌*◌, ◌-◌, ◌≤◌}
use Rattle.cell_num.specs.Fingers.{sum_below}
use Rattle.row_state.specs.Runs.{IsCursor}
use Rattle.row_state.specs.Tests.{empty_test}
use Rattle.row_state.proofs.parity.count_empty.Given as goal

abbrev pub invariant-gates : goal.invariant-gates
invariant-gates l =
    (l.empty ≡ sum_below (empty_test l.row l.state l.kinds) l.cursor.gate)
    × (l.empty ≤ 64 * l.cursor.gate)
    × IsCursor l.kinds l.cursor

abbrev pub decreases-gates : goal.decreases-gates
decreases-gates l = l.kinds.nets - l.cursor.gate
