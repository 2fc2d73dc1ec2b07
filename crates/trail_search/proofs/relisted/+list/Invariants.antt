use Rattle.std.proofs.Common.{length}
use Rattle.trail_search.proofs.relisted.+list.Given as goal

abbrev pub decreases-list : goal.decreases-list
decreases-list l = length l.order.now
