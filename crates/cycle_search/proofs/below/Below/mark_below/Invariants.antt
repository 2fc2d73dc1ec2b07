use Rattle.std.proofs.Common.{◌≡◌, List}
use Rattle.row_cycles.specs.declared.above.NetAbove.{NetAbove}
use Rattle.row_cycles.specs.Above.{IsAbove}
use Rattle.cycle_search.specs.Below.{IsSound}
use Rattle.cycle_search.proofs.below.Below.mark_below.Given as goal

abbrev pub invariant-loop-net : goal.invariant-loop-net
invariant-loop-net l =
    (l.self.nets ≡ l.fn.self.nets)
    × ((pairs : List NetAbove) → IsSound pairs l.fn.self → IsAbove pairs l.upper l.lower → IsSound pairs l.self)
