use Rattle.std.proofs.Common.{ℕ, ◌≡◌, ◌<◌, ◌≤◌, ◌==◌, if◌then◌else◌, get_or, length}
use Rattle.row_state.proofs.component.rename.Given as goal

abbrev pub invariant-loop-net : goal.invariant-loop-net
invariant-loop-net l =
    (length l.classes ≡ 256)
    × ((u : ℕ) → u < l.net → get_or l.classes u 0 ≡ (if get_or l.fn.classes u 0 == l.high then l.low else get_or l.fn.classes u 0))
    × ((u : ℕ) → l.net ≤ u → get_or l.classes u 0 ≡ get_or l.fn.classes u 0)
