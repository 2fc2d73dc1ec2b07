use Rattle.std.proofs.Common.{IfSome}
use Rattle.cycle_search.specs.Ways.{Closes}
use Rattle.cycle_search.proofs.ways.closing.Given as goal

abbrev pub invariant-loop-step : goal.invariant-loop-step
invariant-loop-step l = IfSome l.best (Closes l.asked.pairs l.new)
