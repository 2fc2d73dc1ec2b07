use Rattle.std.proofs.Common.{◌≡◌, ◌≤◌, ◌-◌, length, false}
use Rattle.gds_read.proofs.Repeats.{again_from}
use Rattle.gds_read.proofs.reference.twice.Given as goal

abbrev pub invariant-records : goal.invariant-records
invariant-records l = (l.at ≤ length l.bytes) × (again_from l.bytes l.seen l.kind l.at ≡ again_from l.bytes false l.kind l.from)

abbrev pub decreases-records : goal.decreases-records
decreases-records l = length l.bytes - l.at
