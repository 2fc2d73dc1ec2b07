use Rattle.std.proofs.Common.{◌≡◌, not, length, count_by}
use Rattle.row_cycles.proofs.Found.{AreBelow}
use Rattle.row_cycles.proofs.down.is_above.Given as goal

abbrev pub invariant-nets : goal.invariant-nets
invariant-nets l = (length l.found ≡ 256) × AreBelow l.above l.upper l.found

abbrev pub decreases-nets : goal.decreases-nets
decreases-nets l = count_by not l.found
