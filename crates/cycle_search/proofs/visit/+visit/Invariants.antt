use Rattle.std.proofs.Common.{All, take}
use Rattle.row_state.specs.Start.{columns_left}
use Rattle.row_cycles.specs.Above.{Follows}
use Rattle.cycle_search.specs.Visit.{IsGrown, IsKept}
use Rattle.cycle_search.proofs.Visited.{Fail}
use Rattle.cycle_search.proofs.visit.+visit.Given as goal

abbrev pub decreases-visit : goal.decreases-visit
decreases-visit g l = columns_left l.task.now.kinds.now l.at.now.state

abbrev pub invariant-loop-next : goal.invariant-loop-next
invariant-loop-next g l =
    IsKept (g.B.GapBound.value l.task.bound.now) l.task.pins.now l.task.kinds.now l.task.gaps l.task.budget l.progress
    × IsGrown l.fn.progress l.progress
    × All (Follows l.asked.pairs) l.need
    × Fail (g.B.GapBound.value l.task.bound.now) l.task.pins.now l.task.kinds.now l.progress.lemmas l.at.state l.allowed l.need (take l.next-index l.next-items)
