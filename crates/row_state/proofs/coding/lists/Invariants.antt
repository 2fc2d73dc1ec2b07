use Rattle.std.proofs.Common.{◌≡◌, drop}
use Rattle.row_state.specs.Code.{count_lists}
use Rattle.row_state.proofs.coding.lists.Given as goal

abbrev pub invariant-loop-at : goal.invariant-loop-at
invariant-loop-at l = l.lists ≡ count_lists (drop l.at l.kinds)
