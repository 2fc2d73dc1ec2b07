use Rattle.std.proofs.Common.{◌≡◌, ◌++◌, drop}
use Rattle.gds_area.specs.Points.{steps_from}
use Rattle.gds_area.specs.Sweep.{ends_of}
use Rattle.gds_area.proofs.even_odd.side_ends.Given as goal

abbrev pub invariant-loop-to : goal.invariant-loop-to
invariant-loop-to l = l.ends.items ++ ends_of (steps_from l.from (drop l.to-index l.rest)) ≡ ends_of (steps_from l.first l.rest)
