use Rattle.std.proofs.Common.{length}
use Rattle.open_gates.proofs.level.+list_within.Given as goal

abbrev pub decreases-list_within : goal.decreases-list_within
decreases-list_within l = length l.order.now
