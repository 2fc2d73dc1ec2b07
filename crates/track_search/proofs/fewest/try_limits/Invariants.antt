use Rattle.std.proofs.Common.{All}
use Rattle.lemma_check.specs.Noted.{AreNoted}
use Rattle.track_search.specs.FewestBy.{ProveBy}
use Rattle.track_search.specs.Kept.{IsWithin}
use Rattle.track_search.proofs.Spent.{AreTried}
use Rattle.track_search.proofs.fewest.try_limits.Given as goal

abbrev pub invariant-loop-limit : goal.invariant-loop-limit
invariant-loop-limit g l =
    ProveBy g.R.TrackRule.fits (g.B.RowBound.value l.task.bound.now) l.task.pins.now l.task.kinds.now l.task.gaps l.limit l.lemmas
    × All (IsWithin l.task.kinds.now l.most l.task.gaps) l.lemmas
    × AreTried g.R.TrackRule.fits (g.B.RowBound.value l.task.bound.now) l.task.pins.now l.task.kinds.now l.task.gaps l.limit l.budget l.task.budget l.lemmas
    × AreNoted (g.B.RowBound.trails_of l.task.bound.now) l.task.kinds.now l.trails
