use Rattle.std.proofs.Common.{◌≡◌, ◌+◌, ◌≤◌, length}
use Rattle.cell_num.specs.declared.limits.TheConstants.{MOST_BYTES}
use Rattle.log_lines.specs.Lines.{behind, lines_in}
use Rattle.bound_log.specs.Reading.{columns_at}
use Rattle.bound_log.proofs.Fronts.{with_columns}
use Rattle.bound_log.proofs.read.read_columns.Given as goal

abbrev pub invariant-columns : goal.invariant-columns
invariant-columns l =
    (length l.rest + l.number ≤ MOST_BYTES + 5)
    × (with_columns l.steps (columns_at l.kinds l.number (lines_in l.rest) (behind l.rest)) ≡ columns_at l.kinds l.from (lines_in l.bytes) (behind l.bytes))

abbrev pub decreases-columns : goal.decreases-columns
decreases-columns l = length l.rest
