use Rattle.std.proofs.Common.{◌≡◌, ◌+◌, ◌≤◌, length}
use Rattle.cell_num.specs.declared.limits.TheConstants.{MOST_BYTES}
use Rattle.log_lines.specs.Lines.{behind, lines_in}
use Rattle.track_log.specs.Reading.{cycles_at}
use Rattle.track_log.proofs.Fronts.{with_cycles}
use Rattle.track_log.proofs.read.read_cycles.Given as goal

abbrev pub invariant-cycles : goal.invariant-cycles
invariant-cycles l =
    (length l.rest + l.number ≤ MOST_BYTES + 5)
    × (with_cycles l.cycles (cycles_at l.gaps l.tracks l.kinds l.number (lines_in l.rest) (behind l.rest)) ≡ cycles_at l.gaps l.tracks l.kinds 5 (lines_in l.bytes) (behind l.bytes))

abbrev pub decreases-cycles : goal.decreases-cycles
decreases-cycles l = length l.rest
