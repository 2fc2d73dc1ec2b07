use Rattle.std.proofs.Common.{◌+◌, ◌≤◌, All, take}
use Rattle.row_state.specs.Start.{columns_left}
use Rattle.trail_search.specs.Lists.{AreRight}
use Rattle.trail_search.specs.Visit.{AreTrue, IsSpent}
use Rattle.trail_search.proofs.Tried.{HasNone}
use Rattle.trail_search.proofs.descent.+visit.Given as goal

abbrev pub decreases-visit : goal.decreases-visit
decreases-visit l = columns_left l.task.now.kinds.now l.at.now.state

abbrev pub invariant-loop-next : goal.invariant-loop-next
invariant-loop-next l = AreTrue l.task.kinds.now l.known × (l.left ≤ l.fn.left) × All (HasNone l.task.kinds.now l.at.state l.allowed) (take l.next-index l.next-items) × IsSpent l.task.kinds.now l.task.tries (columns_left l.task.kinds.now l.at.state) l.at.state (l.allowed + 1) l.fn.known l.known l.fn.left l.left 1 × AreRight l.lists
