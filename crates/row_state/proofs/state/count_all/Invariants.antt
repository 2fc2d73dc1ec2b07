use Rattle.std.proofs.Common.{◌≡◌, ◌+◌, drop}
use Rattle.row_state.specs.Start.{counts_of}
use Rattle.row_state.specs.Tests.{gate_left}
use Rattle.row_state.proofs.state.count_all.Given as goal

abbrev pub invariant-loop-at : goal.invariant-loop-at
invariant-loop-at l = l.total + gate_left (drop l.at l.kinds) (counts_of (drop l.at l.kinds)) l.gate ≡ gate_left l.kinds (counts_of l.kinds) l.gate
