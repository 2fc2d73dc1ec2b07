use Rattle.std.proofs.Common.{◌≡◌, ◌++◌, drop}
use Rattle.box_geom.specs.Sweeping.{slots}
use Rattle.box_geom.proofs.sweep.slots.Given as goal

abbrev pub invariant-loop-event : goal.invariant-loop-event
invariant-loop-event l = l.out.items ++ slots l.operation l.state (drop l.event-index l.rest) ≡ slots l.operation l.first l.rest
