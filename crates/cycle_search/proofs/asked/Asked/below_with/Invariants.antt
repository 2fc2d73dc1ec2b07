use Rattle.std.proofs.Common.{◌++◌}
use Rattle.cycle_search.specs.Below.{IsSound}
use Rattle.cycle_search.proofs.asked.Asked.below_with.Given as goal

abbrev pub invariant-loop-a : goal.invariant-loop-a
invariant-loop-a l = IsSound (l.self.pairs ++ l.new) l.below
