use Rattle.std.proofs.Common.{ℕ, ◌≡◌, get_or, length}
use Rattle.row_trails.specs.Counts.{entry, flag, size_in}
use Rattle.row_trails.proofs.count.count_by_class.Given as goal

abbrev pub invariant-loop-net : goal.invariant-loop-net
invariant-loop-net l =
    (length l.counts ≡ 256)
    × ((h : ℕ) → get_or l.counts h 0 ≡ size_in l.net (entry l.classes) (flag l.set) h)
