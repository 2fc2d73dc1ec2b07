use Rattle.std.proofs.Common.{◌++◌, All}
use Rattle.row_cycles.specs.Above.{Follows}
use Rattle.cycle_search.specs.Ways.{IsAtOrAbove}
use Rattle.cycle_search.proofs.ways.way.Given as goal

abbrev pub invariant-loop-step : goal.invariant-loop-step
invariant-loop-step l = All (Follows l.asked.pairs) l.pairs × IsAtOrAbove (l.pairs ++ l.steps) l.fn.from l.net
