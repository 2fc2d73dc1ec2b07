use Rattle.trail_pools.proofs.Listed.{open_levels}
use Rattle.trail_pools.proofs.laws.open_levels.Goals as goal

pub returns : goal.returns
returns c = open_levels
