use Rattle.std.proofs.Common.{◌≡◌, ◌≤◌, drop}
use Rattle.row_compact.specs.Entries.{reach_from}
use Rattle.row_compact.proofs.lines.least_x.Given as goal

abbrev pub invariant-loop-distance : goal.invariant-loop-distance
invariant-loop-distance l = (reach_from l.xs l.line l.least (drop l.distance-index l.list) ≡ reach_from l.xs l.line 0 l.list) × (l.least ≤ 127008)
