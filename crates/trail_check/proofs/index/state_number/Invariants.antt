use Rattle.std.proofs.Common.{◌≡◌}
use Rattle.std.specs.Prelude.{take}
use Rattle.trail_check.specs.Indexed.{state_number}
use Rattle.trail_check.proofs.index.state_number.Given as goal

abbrev pub invariant-loop-place : goal.invariant-loop-place
invariant-loop-place l = l.number ≡ state_number l.done (take l.place-index l.state)
