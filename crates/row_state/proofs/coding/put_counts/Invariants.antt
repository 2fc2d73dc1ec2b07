use Rattle.std.proofs.Common.{◌≡◌, ◌++◌, length, take, drop}
use Rattle.row_state.specs.Code.{counts_of_code}
use Rattle.row_state.proofs.coding.put_counts.Given as goal

abbrev pub invariant-loop-at : goal.invariant-loop-at
invariant-loop-at l = (take l.at l.into ++ counts_of_code (drop l.at l.kinds) l.rest ≡ counts_of_code l.kinds l.number) × (length l.into ≡ length l.kinds)
