use Rattle.trail_pools.proofs.Along.{along_order}
use Rattle.trail_pools.proofs.laws.along_order.Goals as goal

pub returns : goal.returns
returns c = along_order
