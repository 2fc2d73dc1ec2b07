use Rattle.std.proofs.Common.{◌≡◌, drop}
use Rattle.row_state.specs.Code.{counts_code}
use Rattle.row_state.proofs.coding.counts_number.Given as goal

abbrev pub invariant-loop-at : goal.invariant-loop-at
invariant-loop-at l = l.number ≡ counts_code (drop l.at l.kinds) (drop l.at l.left)
