use Rattle.std.proofs.Common.{◌≡◌, ◌++◌, slice_get}
use Rattle.row_state.specs.Tests.{joined_below, sides_of, with_each}
use Rattle.row_state.proofs.listing.push_each.Given as goal

abbrev pub invariant-loop-at : goal.invariant-loop-at
invariant-loop-at l = l.steps ≡ l.fn.steps ++ with_each l.p (joined_below (λ i. sides_of l.gate i (slice_get l.kinds i) (slice_get l.left i)) l.at)
