use Rattle.std.proofs.Common.{◌≡◌, ◌++◌, ltb, slice_get}
use Rattle.std.specs.List.{flat_map}
use Rattle.row_state.specs.Tests.{joined_below, sides_of, sides_on, with_side}
use Rattle.row_state.proofs.listing.push_filled.Given as goal

abbrev pub invariant-loop-at : goal.invariant-loop-at
invariant-loop-at l = l.steps ≡ l.fn.steps ++ flat_map (with_side (sides_on l.kinds.n l.state.n_left l.on.gate) (ltb l.on.n.left l.on.p.left)) (joined_below (λ i. sides_of l.on.gate i (slice_get l.kinds.p i) (slice_get l.state.p_left i)) l.at)
