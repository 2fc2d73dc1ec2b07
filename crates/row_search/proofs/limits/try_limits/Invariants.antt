use Rattle.lemma_check.specs.Noted.{AreNoted}
use Rattle.row_search.proofs.Tried.{HaveFailed}
use Rattle.row_search.proofs.limits.try_limits.Given as goal

abbrev pub invariant-loop-limit : goal.invariant-loop-limit
invariant-loop-limit g l = HaveFailed (g.B.RowBound.value l.task.bound.now) l.task.kinds.now l.task.budget l.first.state l.limit l.progress
    × AreNoted (g.B.RowBound.trails_of l.task.bound.now) l.task.kinds.now l.trails
