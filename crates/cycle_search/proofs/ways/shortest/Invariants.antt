use Rattle.std.proofs.Common.{IfSome}
use Rattle.cycle_search.specs.Ways.{IsWay}
use Rattle.cycle_search.proofs.ways.shortest.Given as goal

abbrev pub invariant-loop-first : goal.invariant-loop-first
invariant-loop-first l = IfSome l.best (IsWay l.asked.pairs l.new l.from l.to)

abbrev pub invariant-loop-second : goal.invariant-loop-second
invariant-loop-second l = IfSome l.best (IsWay l.asked.pairs l.new l.from l.to)
