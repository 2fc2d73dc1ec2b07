use Rattle.std.proofs.Common.{◌+◌, ◌≤◌, ◌<◌, max, sym, arith}
use Rattle.std.proofs.lemmas.Bool.{lt-leb}
use Rattle.cell_num.specs.Fingers.{on_gate, columns_of, sum_below}
use Rattle.cell_num.proofs.Sums.{sum_below_le}
use Rattle.cell_num.proofs.fingers.are_few_columns.Goals as goal

pub returns-then-left-count : goal.returns-then-left-count
returns-then-left-count c =
    let part : sum_below (λ g. max (on_gate g c.args.fingers.now.p) (on_gate g c.args.fingers.now.n)) c.loop-gate.gate + max (on_gate c.loop-gate.gate c.args.fingers.now.p) (on_gate c.loop-gate.gate c.args.fingers.now.n) ≤ columns_of c.args.fingers.now = sum_below_le _ _ _ c.loop-gate-test.true in
    let more : 32 < columns_of c.args.fingers.now = omega (arith, part, c.loop-gate.invariant, c.if-left-count.true, c.larger_count-count.ensures) in
    sym (lt-leb (columns_of c.args.fingers.now) 32 more)
