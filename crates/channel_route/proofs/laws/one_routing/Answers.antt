use Rattle.channel_route.proofs.OneRouting.{one_routing}
use Rattle.channel_route.proofs.laws.one_routing.Goals as goal

pub returns : goal.returns
returns c = one_routing
