use Rattle.std.proofs.Common.{◌+◌, ◌*◌, ◌∷◌, All, length, take}
use Rattle.std.specs.List.{range_with_len}
use Rattle.track_ways.specs.Tables.{marked}
use Rattle.track_ways.specs.Ways.{nets_below, on_track}
use Rattle.all_ways.specs.Onward.{AllOnward}
use Rattle.all_ways.proofs.Passing.{PassesFurther}
use Rattle.all_ways.proofs.through.+all_onward.Given as goal

abbrev pub decreases-all_onward : goal.decreases-all_onward
decreases-all_onward g l = length l.lines.now * (l.task.now.nets + 1) + length l.nets.now

abbrev pub invariant-loop-track : goal.invariant-loop-track
invariant-loop-track g l = All (λ track. AllOnward (g.T.WayTest.passes l.task.test.now) g.R.TrackRule.ways l.task.pins.now l.task.limit (nets_below l.task.nets) (marked l.before) l.lines (marked l.task.behind.now) l.others (on_track l.net track ∷ l.tracks.items)) (range_with_len 0 l.track)

abbrev pub invariant-loop-way : goal.invariant-loop-way
invariant-loop-way g l = All (PassesFurther (g.T.WayTest.passes l.task.test.now) g.R.TrackRule.ways l.task.pins.now l.task.limit (nets_below l.task.nets) (marked l.after) l.rest (marked l.task.behind.now)) (take l.way-index l.way-items)
