use Rattle.std.proofs.Common.{◌≤◌, ◌-◌, length}
use Rattle.gds_read.specs.Index.{IsIndexBefore}
use Rattle.gds_read.proofs.index.read_index.Given as goal

abbrev pub invariant-records : goal.invariant-records
invariant-records l = (l.at ≤ length l.bytes) × IsIndexBefore l.bytes l.index l.at

abbrev pub decreases-records : goal.decreases-records
decreases-records l = length l.bytes - l.at
