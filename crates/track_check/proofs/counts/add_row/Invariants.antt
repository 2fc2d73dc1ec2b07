use Rattle.std.proofs.Common.{ℕ, ◌≡◌, ◌+◌, drop}
use Rattle.row_trails.specs.Counts.{entry}
use Rattle.track_check.specs.Touches.{row_touches}
use Rattle.track_check.proofs.counts.add_row.Given as goal

abbrev pub invariant-loop-at : goal.invariant-loop-at
invariant-loop-at l = (u : ℕ) → entry l.table u + row_touches (drop l.at l.kinds) (drop l.at l.left) u ≡ entry l.fn.table u + row_touches l.kinds l.left u
