use Rattle.std.proofs.Common.{All, take}
use Rattle.row_state.specs.Start.{columns_left}
use Rattle.lemma_check.specs.Noted.{AreNoted}
use Rattle.track_search.specs.Visit.{IsGrown}
use Rattle.track_search.proofs.Grown.{WaysFail}
use Rattle.track_search.proofs.descent.+visit.Given as goal

abbrev pub decreases-visit : goal.decreases-visit
decreases-visit g l = columns_left l.task.now.kinds.now l.at.now.state

abbrev pub invariant-loop-next : goal.invariant-loop-next
invariant-loop-next g l =
    IsGrown g.R.TrackRule.fits (g.B.RowBound.value l.task.bound.now) l.task.pins.now l.task.limit l.task.kinds.now l.task.gaps l.task.budget (columns_left l.task.kinds.now l.at.state) l.fn.progress l.progress
    × All (WaysFail g.R.TrackRule.ways (g.B.RowBound.value l.task.bound.now) l.task.pins.now l.task.limit l.task.kinds.now l.progress.lemmas l.at.state l.allowed l.ways) (take l.next-index l.next-items)
    × AreNoted (g.B.RowBound.trails_of l.task.bound.now) l.task.kinds.now l.trails
