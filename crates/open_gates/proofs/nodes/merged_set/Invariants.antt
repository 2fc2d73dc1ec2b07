use Rattle.std.proofs.Common.{ℕ, ◌≡◌, take}
use Rattle.std.specs.BTreeSet.{contains}
use Rattle.std.specs.Ordering.{nat_cmp}
use Rattle.open_gates.specs.Listed.{is_listed}
use Rattle.open_gates.specs.Merged.{is_merged_from}
use Rattle.open_gates.proofs.nodes.merged_set.Given as goal

abbrev pub invariant-loop-node : goal.invariant-loop-node
invariant-loop-node l = (v : ℕ) → contains nat_cmp l.all v ≡ is_merged_from l.row (is_listed l.nets) (take l.node-index l.nodes) v
