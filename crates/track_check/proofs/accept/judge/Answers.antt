use Rattle.std.proofs.Common.{subst, sym}
use Rattle.track_check.specs.Accepted.{Rejects}
use Rattle.track_check.proofs.accept.judge.Goals as goal

pub returns-in-Err-clause-rejected : goal.returns-in-Err-clause-rejected
returns-in-Err-clause-rejected g c = λ other.
    let is = c.of_fault.ensures other in
    subst (Rejects (g.B.GapBound.value c.args.bound.now) c.args.pins.now c.args.kinds.now c.args.name.now c.args.bytes.now) (sym is.0) (c.in-Err.ensures.fault is.1)
