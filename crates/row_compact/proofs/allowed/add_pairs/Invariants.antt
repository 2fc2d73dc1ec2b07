use Rattle.std.proofs.Common.{◌≡◌, ◌++◌, drop, filter_map}
use Rattle.row_compact.specs.Entries.{pair_entry}
use Rattle.row_compact.proofs.allowed.add_pairs.Given as goal

abbrev pub invariant-loop-right : goal.invariant-loop-right
invariant-loop-right l = l.list ++ filter_map (pair_entry l.left) (drop l.right-index l.trunks) ≡ l.fn.list ++ filter_map (pair_entry l.left) l.trunks
