use Rattle.std.proofs.Common.{◌≡◌}
use Rattle.row_state.specs.Runs.{GatesFrom}
use Rattle.row_state.specs.Tests.{columns_on, joined_below}
use Rattle.row_state.proofs.listing.list_next.Given as goal

abbrev pub invariant-loop-gate : goal.invariant-loop-gate
invariant-loop-gate l =
    (l.steps ≡ joined_below (columns_on l.kinds l.state) l.gate)
    × GatesFrom l.kinds.p l.gate l.p_from
    × GatesFrom l.kinds.n l.gate l.n_from
