use Rattle.std.proofs.Common.{ℕ, ◌≡◌, ◌||◌, drop, ltb}
use Rattle.row_trails.specs.Counts.{flag}
use Rattle.track_check.specs.Touches.{row_touches}
use Rattle.track_search.proofs.marks.mark_row.Given as goal

abbrev pub invariant-loop-at : goal.invariant-loop-at
invariant-loop-at l = (u : ℕ) → (flag l.table u || ltb 0 (row_touches (drop l.at l.kinds) (drop l.at l.left) u)) ≡ (flag l.fn.table u || ltb 0 (row_touches l.kinds l.left u))
