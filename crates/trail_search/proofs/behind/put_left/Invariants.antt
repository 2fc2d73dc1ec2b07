use Rattle.std.proofs.Common.{◌≡◌, ◌++◌, drop}
use Rattle.row_state.specs.Completion.{fingers_left}
use Rattle.trail_search.proofs.behind.put_left.Given as goal

abbrev pub invariant-loop-at : goal.invariant-loop-at
invariant-loop-at l = l.fingers ++ fingers_left l.row (drop l.at l.kinds) (drop l.at l.left) ≡ l.fn.fingers ++ fingers_left l.row l.kinds l.left
