use Rattle.std.proofs.Common.{◌≡◌, ◌-◌}
use Rattle.row_state.specs.Runs.{IsCursor}
use Rattle.row_state.specs.Tests.{leads_below}
use Rattle.row_state.proofs.state.has_leads.Given as goal

abbrev pub invariant-gates : goal.invariant-gates
invariant-gates l = (l.kept ≡ leads_below l.kinds l.state l.cursor.gate) × IsCursor l.kinds l.cursor

abbrev pub decreases-gates : goal.decreases-gates
decreases-gates l = l.kinds.nets - l.cursor.gate
