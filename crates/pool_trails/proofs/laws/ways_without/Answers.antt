use Rattle.pool_trails.proofs.FewWays.{few_ways}
use Rattle.pool_trails.proofs.laws.ways_without.Goals as goal

pub returns : goal.returns
returns c = few_ways
