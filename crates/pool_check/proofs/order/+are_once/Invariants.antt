use Rattle.std.proofs.Common.{length}
use Rattle.pool_check.proofs.order.+are_once.Given as goal

abbrev pub decreases-are_once : goal.decreases-are_once
decreases-are_once l = length l.gates.now
