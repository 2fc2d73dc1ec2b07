use Rattle.std.proofs.Common.{length}
use Rattle.trail_pools.proofs.nodes.+met_nodes.Given as goal

abbrev pub decreases-met_nodes : goal.decreases-met_nodes
decreases-met_nodes l = length l.gates.now
