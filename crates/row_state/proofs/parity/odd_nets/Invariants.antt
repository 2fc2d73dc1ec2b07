use Rattle.std.proofs.Common.{ℕ, ◌≡◌, false, get_or, length, take}
use Rattle.row_state.specs.Tests.{is_odd_net}
use Rattle.row_state.proofs.parity.odd_nets.Given as goal

abbrev pub invariant-loop-at : goal.invariant-loop-at
invariant-loop-at l = (length l.odd ≡ 256) × ((u : ℕ) → get_or l.odd u false ≡ is_odd_net (take l.at l.kinds) (take l.at l.left) u)
