use Rattle.std.proofs.Common.{◌≡◌, ◌+◌, max}
use Rattle.cell_num.specs.Fingers.{on_gate, sum_below}
use Rattle.cell_num.proofs.fingers.are_few_columns.Given as goal

abbrev pub invariant-loop-gate : goal.invariant-loop-gate
invariant-loop-gate l = l.left + sum_below (λ gate. max (on_gate gate l.fingers.p) (on_gate gate l.fingers.n)) l.gate ≡ 32
