use Rattle.std.proofs.Common.{◌≡◌, ◌+◌, ◌≤◌, length}
use Rattle.cell_num.specs.declared.limits.TheConstants.{MOST_BYTES}
use Rattle.log_lines.specs.Lines.{behind, lines_in}
use Rattle.track_log.specs.Reading.{lemmas_at}
use Rattle.track_log.proofs.Fronts.{with_lemmas}
use Rattle.track_log.proofs.read.read_lemmas.Given as goal

abbrev pub invariant-lemmas : goal.invariant-lemmas
invariant-lemmas l =
    (length l.rest + l.number ≤ MOST_BYTES + 5)
    × (with_lemmas l.lemmas (lemmas_at l.kinds l.number (lines_in l.rest) (behind l.rest)) ≡ lemmas_at l.kinds l.from (lines_in l.bytes) (behind l.bytes))

abbrev pub decreases-lemmas : goal.decreases-lemmas
decreases-lemmas l = length l.rest
