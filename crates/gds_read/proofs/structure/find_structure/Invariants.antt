use Rattle.std.proofs.Common.{◌≤◌, ◌-◌, length}
use Rattle.gds_record.specs.Records.{items_from}
use Rattle.gds_read.specs.Structure.{SoFar, IsWithin, behind_name, found_in}
use Rattle.gds_read.proofs.structure.find_structure.Given as goal

abbrev pub invariant-records : goal.invariant-records
invariant-records l = (l.at ≤ length l.bytes) × SoFar l.bytes l.found (behind_name l.name (items_from l.bytes l.at)) (found_in l.bytes l.name) × IsWithin (length l.bytes) l.found

abbrev pub decreases-records : goal.decreases-records
decreases-records l = length l.bytes - l.at
