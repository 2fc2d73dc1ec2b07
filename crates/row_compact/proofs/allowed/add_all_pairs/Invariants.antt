use Rattle.std.proofs.Common.{◌≡◌, ◌++◌, drop, filter_map, flat_map}
use Rattle.row_compact.specs.Entries.{pair_entry, pairs_of}
use Rattle.row_compact.proofs.allowed.add_all_pairs.Given as goal

abbrev pub invariant-loop-trunk : goal.invariant-loop-trunk
invariant-loop-trunk l = l.list ++ flat_map (λ a. filter_map (pair_entry a) l.trunks) (drop l.trunk-index l.trunks) ≡ l.fn.list ++ pairs_of l.trunks
