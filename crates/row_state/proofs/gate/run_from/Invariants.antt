use Rattle.std.proofs.Common.{ℕ, ◌≡◌, ◌+◌, ◌<◌, drop, get_or, length}
use Rattle.row_state.specs.declared.kind.Kind.{Kind}
use Rattle.row_state.specs.Start.{counts_of}
use Rattle.row_state.specs.Tests.{gate_left}
use Rattle.row_state.proofs.gate.run_from.Given as goal

abbrev pub invariant-loop-at : goal.invariant-loop-at
invariant-loop-at l =
    ((i : ℕ) (d : Kind) → i < l.at → (get_or l.kinds i d).gate.0 < l.gate + 1)
    × (l.run.from ≡ l.from) × (l.run.to ≡ length l.kinds)
    × (l.run.all + gate_left (drop l.at l.kinds) (counts_of (drop l.at l.kinds)) l.gate ≡ gate_left l.kinds (counts_of l.kinds) l.gate)
    × (l.run.left + gate_left (drop l.at l.kinds) (drop l.at l.left) l.gate ≡ gate_left l.kinds l.left l.gate)
