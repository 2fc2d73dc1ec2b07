use Rattle.track_ways.proofs.Behind.{open_of_state}
use Rattle.track_ways.proofs.net_laws.open_by_states.Goals as goal

pub returns : goal.returns
returns c = open_of_state
