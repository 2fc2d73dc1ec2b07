use Rattle.std.proofs.Common.{◌≡◌, ◌≤◌, ◌-◌, ◌++◌, length}
use Rattle.gds_record.specs.Records.{items_from}
use Rattle.gds_read.specs.Index.{drawing_places}
use Rattle.gds_read.proofs.index.places_of.Given as goal

abbrev pub invariant-records : goal.invariant-records
invariant-records l = (l.at ≤ length l.bytes) × (l.places.items ++ drawing_places l.labels (items_from l.bytes l.at) ≡ drawing_places l.labels (items_from l.bytes l.place))

abbrev pub decreases-records : goal.decreases-records
decreases-records l = length l.bytes - l.at
