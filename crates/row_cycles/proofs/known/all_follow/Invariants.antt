use Rattle.std.proofs.Common.{All, take}
use Rattle.row_cycles.specs.Above.{Follows}
use Rattle.row_cycles.proofs.known.all_follow.Given as goal

abbrev pub invariant-loop-pair : goal.invariant-loop-pair
invariant-loop-pair l = All (Follows l.above) (take l.pair-index l.pairs)
