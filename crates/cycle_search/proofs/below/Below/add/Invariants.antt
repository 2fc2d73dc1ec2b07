use Rattle.std.proofs.Common.{List}
use Rattle.row_cycles.specs.declared.above.NetAbove.{NetAbove}
use Rattle.row_cycles.specs.Above.{Follows}
use Rattle.cycle_search.specs.Below.{IsSound}
use Rattle.cycle_search.proofs.below.Below.add.Given as goal

abbrev pub invariant-loop-net : goal.invariant-loop-net
invariant-loop-net l = (pairs : List NetAbove) → IsSound pairs l.fn.self → Follows pairs l.a → IsSound pairs l.self
