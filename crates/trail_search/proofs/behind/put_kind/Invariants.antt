use Rattle.std.proofs.Common.{◌≡◌, ◌++◌, replicate}
use Rattle.row_state.specs.Completion.{finger_of}
use Rattle.trail_search.proofs.behind.put_kind.Given as goal

abbrev pub invariant-loop : goal.invariant-loop
invariant-loop l = l.fingers ≡ l.fn.fingers ++ replicate l.counter (finger_of l.row l.kind)
