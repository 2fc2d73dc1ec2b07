use Rattle.std.proofs.Common.{◌≡◌, ◌++◌, take}
use Rattle.std.specs.List.{filter}
use Rattle.trail_state.specs.Sorted.{is_below}
use Rattle.trail_state.proofs.edges.add_lower.Given as goal

abbrev pub invariant-loop-other : goal.invariant-loop-other
invariant-loop-other l = l.all.items ≡ l.fn.all.items ++ filter (is_below l.edge) (take l.other-index l.edges)
