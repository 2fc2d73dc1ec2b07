use Rattle.channel_route.proofs.Crossing.{no_cycle}
use Rattle.channel_route.proofs.laws.no_cycle.Goals as goal

pub returns : goal.returns
returns c = no_cycle
