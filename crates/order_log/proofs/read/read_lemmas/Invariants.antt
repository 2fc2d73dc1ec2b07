use Rattle.std.proofs.Common.{◌≡◌, ◌+◌, ◌≤◌, length}
use Rattle.cell_num.specs.declared.limits.TheConstants.{MOST_BYTES}
use Rattle.log_lines.specs.Lines.{behind, lines_in}
use Rattle.order_log.specs.Reading.{lemmas_at}
use Rattle.order_log.proofs.Fronts.{with_lemmas}
use Rattle.order_log.proofs.read.read_lemmas.Given as goal

abbrev pub invariant-lemmas : goal.invariant-lemmas
invariant-lemmas g l =
    (length l.rest + l.number ≤ MOST_BYTES + 5)
    × (l.fill ≡ l.fn.fill)
    × (l.order ≡ l.fn.order)
    × (with_lemmas l.lemmas (lemmas_at (g.L.LemmaText.said l.kinds.nets) l.fn.fill l.fn.order l.kinds l.number (lines_in l.rest) (behind l.rest)) ≡ lemmas_at (g.L.LemmaText.said l.kinds.nets) l.fn.fill l.fn.order l.kinds 5 (lines_in l.bytes) (behind l.bytes))

abbrev pub decreases-lemmas : goal.decreases-lemmas
decreases-lemmas g l = length l.rest
