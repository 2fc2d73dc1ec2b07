use Rattle.std.proofs.Common.{All, take}
use Rattle.track_search.specs.Visit.{AreFresh, AreTaken, GoOn}
use Rattle.track_search.proofs.onward.onward_ways.Given as goal

abbrev pub invariant-loop-way : goal.invariant-loop-way
invariant-loop-way g l =
    (All (AreTaken g.R.TrackRule.ways l.task.pins.now l.task.limit l.task.kinds.now l.known.lemmas.now l.state l.next.step l.ahead.state.state l.ahead.left l.onward) (take l.way-index l.way-items)
    × All (GoOn g.R.TrackRule.ways l.task.pins.now l.task.limit l.task.kinds.now l.state l.next.step l.ways) l.onward)
    × AreFresh l.known.lemmas.now l.ahead.state.state l.ahead.left l.onward
