use Rattle.std.proofs.Common.{All, take}
use Rattle.track_search.specs.Visit.{EndsFail}
use Rattle.track_search.proofs.ends.some_way_ends.Given as goal

abbrev pub invariant-loop-way : goal.invariant-loop-way
invariant-loop-way g l = All (EndsFail g.R.TrackRule.ways l.task.pins.now l.task.limit l.task.kinds.now l.state) (take l.way-index l.ways)
