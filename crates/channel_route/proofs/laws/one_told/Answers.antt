use Rattle.channel_route.proofs.Stuck.{cycle_is}
use Rattle.channel_route.proofs.OneTold.{one_told}
use Rattle.channel_route.proofs.laws.one_told.Goals as goal

pub returns-clause-cycle : goal.returns-clause-cycle
returns-clause-cycle c = cycle_is

pub returns-clause-one : goal.returns-clause-one
returns-clause-one c = one_told
