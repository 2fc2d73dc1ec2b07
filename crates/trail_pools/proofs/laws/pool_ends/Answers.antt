use Rattle.trail_pools.proofs.Law.{pool_ends}
use Rattle.trail_pools.proofs.laws.pool_ends.Goals as goal

pub returns : goal.returns
returns c = pool_ends
