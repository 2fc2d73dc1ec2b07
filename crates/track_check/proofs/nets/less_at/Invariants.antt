use Rattle.std.proofs.Common.{ℕ, ◌≡◌, ◌&&◌, length, ltb}
use Rattle.row_trails.specs.Counts.{entry, flag}
use Rattle.track_check.proofs.nets.less_at.Given as goal

abbrev pub invariant-loop-at : goal.invariant-loop-at
invariant-loop-at l =
    (length l.less ≡ 256)
    × ((u : ℕ) → flag l.less u ≡ (ltb u l.at && ltb (entry l.low u) (entry l.high u)))
