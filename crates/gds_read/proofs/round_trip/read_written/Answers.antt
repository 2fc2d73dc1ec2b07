use Rattle.gds_read.proofs.RoundTrip.{round_trip}
use Rattle.gds_read.proofs.round_trip.read_written.Goals as goal

pub returns : goal.returns
returns c = λ name shapes unit is. round_trip name shapes unit is
