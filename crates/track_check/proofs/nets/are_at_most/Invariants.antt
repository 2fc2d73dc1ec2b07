use Rattle.std.proofs.Common.{ℕ, ◌<◌, ◌≤◌}
use Rattle.row_trails.specs.Counts.{entry}
use Rattle.track_check.proofs.nets.are_at_most.Given as goal

abbrev pub invariant-loop-at : goal.invariant-loop-at
invariant-loop-at l = (u : ℕ) → u < l.at → entry l.low u ≤ entry l.high u
