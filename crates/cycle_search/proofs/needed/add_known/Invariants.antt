use Rattle.cycle_search.specs.Ways.{AddsNeeded}
use Rattle.cycle_search.proofs.needed.add_known.Given as goal

abbrev pub invariant-loop-place : goal.invariant-loop-place
invariant-loop-place l = AddsNeeded l.asked.pairs l.fn.need l.need
