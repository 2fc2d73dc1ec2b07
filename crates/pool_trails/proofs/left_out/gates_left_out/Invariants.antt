use Rattle.std.proofs.Common.{◌≡◌, take}
use Rattle.std.specs.List.{filter}
use Rattle.pool_trails.specs.Opening.{is_left_out}
use Rattle.pool_trails.proofs.left_out.gates_left_out.Given as goal

abbrev pub invariant-loop-gate : goal.invariant-loop-gate
invariant-loop-gate l = l.gates ≡ filter (is_left_out l.row l.fingers) (take l.gate-index l.gate-items)
