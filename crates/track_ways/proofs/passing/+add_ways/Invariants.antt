use Rattle.std.proofs.Common.{◌≡◌, ◌++◌, length, take}
use Rattle.std.specs.List.{flat_map}
use Rattle.track_ways.specs.Tables.{marked}
use Rattle.track_ways.specs.Ways.{nets_below, pass_ways_by}
use Rattle.track_ways.proofs.passing.+add_ways.Given as goal

abbrev pub decreases-add_ways : goal.decreases-add_ways
decreases-add_ways g l = length l.lines.now

abbrev pub invariant-loop-way : goal.invariant-loop-way
invariant-loop-way g l = l.ways ≡ l.fn.ways ++ flat_map (pass_ways_by g.R.TrackRule.ways l.pins l.limit (nets_below l.nets) (marked l.after) l.rest (marked l.behind)) (take l.way-index l.way-items)
