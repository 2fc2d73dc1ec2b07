use Rattle.std.proofs.Common.{◌++◌, All, take}
use Rattle.row_cycles.specs.Above.{Follows}
use Rattle.cycle_search.specs.Ways.{AddsNeeded}
use Rattle.cycle_search.proofs.ways.add_ways.Given as goal

abbrev pub invariant-loop-pair : goal.invariant-loop-pair
invariant-loop-pair l =
    AddsNeeded l.asked.pairs l.fn.need l.need
    × All (Follows (l.need ++ l.new)) (take l.pair-index l.pairs)
