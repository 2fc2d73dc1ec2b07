use Rattle.std.proofs.Common.{◌≡◌}
use Rattle.std.specs.Prelude.{drop}
use Rattle.log_lines.specs.Words.{parts_at, parts_left}
use Rattle.bound_log.specs.Line.{counts_each}
use Rattle.bound_log.proofs.Counts.{with_front}
use Rattle.bound_log.proofs.line.some_counts.Given as goal

abbrev pub invariant-loop-at : goal.invariant-loop-at
invariant-loop-at l = with_front l.counts (counts_each (drop l.at l.kinds) (parts_left 44 l.rest)) ≡ counts_each l.kinds (parts_at 44 l.word)
