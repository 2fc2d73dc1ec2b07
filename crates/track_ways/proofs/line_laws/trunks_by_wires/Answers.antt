use Rattle.track_ways.proofs.Trunks.{trunks_of_wires}
use Rattle.track_ways.proofs.line_laws.trunks_by_wires.Goals as goal

pub returns : goal.returns
returns c = trunks_of_wires
