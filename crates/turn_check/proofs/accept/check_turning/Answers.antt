use Rattle.std.proofs.lemmas.Result.{err_from_is_err_and}
use Rattle.turn_check.proofs.NotAccepted.{not_accepted}
use Rattle.turn_check.proofs.accept.check_turning.Goals as goal

pub returns-in_err-proved-clause-none : goal.returns-in_err-proved-clause-none
returns-in_err-proved-clause-none g c =
    let p = err_from_is_err_and c.from_residual.result c.from_residual.ensures.1 in
    rw (p.1, p.2) (λ other proved right. not_accepted (g.B.GapBound.value c.args.bound.now) c.args.pins.now c.args.kinds.now c.args.name.now c.args.bytes.now c.in_err-proved.field-0.0 c.requires.name c.show_limits.ensures other (c.in_err-proved.ensures.rejected other) proved right)
