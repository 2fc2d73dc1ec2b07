use Rattle.std.proofs.Common.{ℕ, ◌<◌, get_or}
use Rattle.row_state.specs.declared.kind.Kind.{Kind}
use Rattle.row_state.proofs.candidate.first_on.Given as goal

abbrev pub invariant-loop-at : goal.invariant-loop-at
invariant-loop-at l = (i : ℕ) (d : Kind) → i < l.at → (get_or l.kinds i d).gate.0 < l.gate
