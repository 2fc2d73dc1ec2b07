use Rattle.channel_route.proofs.Routes.{some_routing}
use Rattle.channel_route.proofs.laws.some_routing.Goals as goal

pub returns : goal.returns
returns c = some_routing
