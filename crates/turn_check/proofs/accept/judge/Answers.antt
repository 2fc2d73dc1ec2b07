use Rattle.std.proofs.Common.{sym, subst}
use Rattle.turn_check.specs.Turning.{RejectsTurn}
use Rattle.turn_check.proofs.accept.judge.Goals as goal

pub returns-in-Err-clause-rejected : goal.returns-in-Err-clause-rejected
returns-in-Err-clause-rejected g c = λ other.
    let is = c.of_fault.ensures other in
    subst (RejectsTurn (g.B.GapBound.value c.args.bound.now) c.args.pins.now c.args.kinds.now c.args.name.now c.args.bytes.now) (sym is.0) (c.in-Err.ensures.fault is.1)
