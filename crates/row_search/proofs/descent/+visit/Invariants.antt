use Rattle.std.proofs.Common.{◌+◌, All, take}
use Rattle.row_state.specs.Start.{columns_left}
use Rattle.lemma_check.specs.Reaches.{best_of}
use Rattle.lemma_check.specs.Noted.{AreNoted}
use Rattle.row_search.proofs.Grown.{Reaches}
use Rattle.row_search.proofs.Visits.{HasTried}
use Rattle.row_search.proofs.descent.+visit.Given as goal

abbrev pub decreases-visit : goal.decreases-visit
decreases-visit g l = columns_left l.task.now.kinds.now l.at.now.state

abbrev pub invariant-loop-next : goal.invariant-loop-next
invariant-loop-next g l =
    HasTried (g.B.RowBound.value l.task.bound.now) l.task.kinds.now l.task.budget l.at.state l.allowed l.fn.progress l.progress
    × All (Reaches l.task.kinds.now (λ z. best_of z l.progress.lemmas) l.at.state (l.allowed + 1)) (take l.next-index l.next-items)
    × AreNoted (g.B.RowBound.trails_of l.task.bound.now) l.task.kinds.now l.trails
