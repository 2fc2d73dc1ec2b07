use Rattle.gds_read.proofs.RoundTrip.{flat_back, plain_back}
use Rattle.gds_read.proofs.round_trip.read_library.Goals as goal

pub returns-clause-plain : goal.returns-clause-plain
returns-clause-plain c = plain_back

pub returns-clause-flat : goal.returns-clause-flat
returns-clause-flat c = flat_back
