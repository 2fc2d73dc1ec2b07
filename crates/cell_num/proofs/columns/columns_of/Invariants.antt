use Rattle.std.proofs.Common.{◌≡◌, max}
use Rattle.cell_num.specs.Fingers.{on_gate, sum_below}
use Rattle.cell_num.proofs.columns.columns_of.Given as goal

abbrev pub invariant-loop-gate : goal.invariant-loop-gate
invariant-loop-gate l = l.total ≡ sum_below (λ g. max (on_gate g l.fingers.p) (on_gate g l.fingers.n)) l.gate
