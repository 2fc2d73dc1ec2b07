use Rattle.std.proofs.Common.{ℕ, ◌≡◌, ◌<◌, get_or, length}
use Rattle.row_state.proofs.component.own_classes.Given as goal

abbrev pub invariant-loop-net : goal.invariant-loop-net
invariant-loop-net l = (length l.classes ≡ 256) × ((u : ℕ) → u < l.net → get_or l.classes u 0 ≡ u)
