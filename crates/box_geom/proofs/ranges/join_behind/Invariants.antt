use Rattle.std.proofs.Common.{◌≡◌, ◌++◌, drop}
use Rattle.box_geom.specs.Ranges.{join}
use Rattle.box_geom.proofs.ranges.join_behind.Given as goal

abbrev pub invariant-loop-range : goal.invariant-loop-range
invariant-loop-range l = l.out.items ++ join l.current (drop l.range-index l.rest) ≡ join l.first l.rest
