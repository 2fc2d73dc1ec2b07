use Rattle.std.proofs.Common.{◌≡◌, ◌≤◌, ◌-◌, length}
use Rattle.gds_read.proofs.Fields.{found_from}
use Rattle.gds_read.proofs.field.field.Given as goal

abbrev pub invariant-records : goal.invariant-records
invariant-records l = (l.at ≤ length l.bytes) × (found_from l.bytes l.end l.kind l.at ≡ found_from l.bytes l.end l.kind l.from)

abbrev pub decreases-records : goal.decreases-records
decreases-records l = length l.bytes - l.at
