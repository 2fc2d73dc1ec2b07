use Rattle.cell_make.specs.LowWired.{IsBelow}
use Rattle.cell_make.proofs.low_wired.LowWired.by_bound.Given as goal

abbrev pub invariant-loop-gaps : goal.invariant-loop-gaps
invariant-loop-gaps l = IsBelow l.inputs l.kinds l.gaps l.below
