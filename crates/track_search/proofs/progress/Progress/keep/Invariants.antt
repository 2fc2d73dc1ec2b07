use Rattle.std.proofs.Common.{◌≡◌, ◌≤◌, ◌++◌, length, map, take}
use Rattle.track_search.specs.Bare.{IsNoted}
use Rattle.track_search.specs.Visit.{kept_at}
use Rattle.track_search.proofs.progress.Progress.keep.Given as goal

abbrev pub invariant-loop-way : goal.invariant-loop-way
invariant-loop-way g l =
    (l.self.lemmas ≡ l.fn.self.lemmas ++ map (kept_at l.task.kinds.now.nets l.at.state l.gaps) (take l.way-index l.ways))
    × IsNoted (g.B.RowBound.value l.task.bound.now) l.task.pins.now l.task.limit l.task.kinds.now l.self
    × (length l.self.lemmas ≤ l.task.budget)
