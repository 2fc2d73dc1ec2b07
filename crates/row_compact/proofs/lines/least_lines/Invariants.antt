use Rattle.row_compact.proofs.Least.{IsPart}
use Rattle.row_compact.proofs.lines.least_lines.Given as goal

abbrev pub invariant-loop-line : goal.invariant-loop-line
invariant-loop-line l = IsPart l.distances l.xs l.line
