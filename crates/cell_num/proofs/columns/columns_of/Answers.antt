use Rattle.std.proofs.Common.{◌+◌, ◌≤◌, max, arith}
use Rattle.cell_num.specs.Fingers.{on_gate, columns_of, sum_below}
use Rattle.cell_num.proofs.Sums.{sum_below_le}
use Rattle.cell_num.proofs.columns.columns_of.Goals as goal

pub overflow_add-total : goal.overflow_add-total
overflow_add-total c =
    let part : sum_below (λ g. max (on_gate g c.args.fingers.now.p) (on_gate g c.args.fingers.now.n)) c.loop-gate.gate + max (on_gate c.loop-gate.gate c.args.fingers.now.p) (on_gate c.loop-gate.gate c.args.fingers.now.n) ≤ columns_of c.args.fingers.now = sum_below_le _ _ _ c.loop-gate-test.true in
    omega (arith, part)
