use Rattle.std.proofs.Common.{arith, ◌≡◌, ◌+◌, ◌∷◌, drop}
use Rattle.std.proofs.lemmas.Result.{err_from_is_err_and}
use Rattle.spice_net.proofs.LineFacts.{next_line, line_refused}
use Rattle.spice_net.proofs.read.read_transistors.Goals as goal

pub returns-in_err-take_line-clause-fault : goal.returns-in_err-take_line-clause-fault
returns-in_err-take_line-clause-fault c =
    let given = err_from_is_err_and c.from_residual.result c.from_residual.ensures.1 in
    let next : drop c.loop-line.line-index c.args.lines.now ≡ c.line-item.result ∷ drop (c.loop-line.line-index + 1) c.args.lines.now = next_line c.args.lines.now c.loop-line.line-index c.line-item.result (omega arith) c.line-item.is in
    rw (given.1, given.2) (λ other. line_refused c.args.tech.now c.args.lines.now c.loop-line.line-index c.line-item.result c.loop-line.found c.in_err-take_line.field-0.0 next (c.in_err-take_line.ensures.fault other) c.loop-line.invariant)
