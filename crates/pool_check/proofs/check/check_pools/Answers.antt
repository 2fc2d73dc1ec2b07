use Rattle.std.proofs.lemmas.Result.{err_from_is_err_and}
use Rattle.pool_check.proofs.Low.{accepted_low}
use Rattle.pool_check.proofs.Refusals.{faults_never}
use Rattle.pool_check.proofs.check.check_pools.Goals as goal

pub returns-in_err-along-clause-refused : goal.returns-in_err-along-clause-refused
returns-in_err-along-clause-refused c =
    let p = err_from_is_err_and c.from_residual.result c.from_residual.ensures.1 in
    rw (p.1, p.2) (λ other. c.in_err-along.ensures.refused other c.args.lemmas.now)

pub returns-in_err-along-clause-never : goal.returns-in_err-along-clause-never
returns-in_err-along-clause-never c =
    let p = err_from_is_err_and c.from_residual.result c.from_residual.ensures.1 in
    rw (p.1, p.2)
    (faults_never c.args.fingers.now c.args.opened.now c.args.order.now c.args.lemmas.now c.in_err-along.field-0.0
    (λ other. c.in_err-along.ensures.refused other c.args.lemmas.now))

pub returns-in_err-along-clause-law : goal.returns-in_err-along-clause-law
returns-in_err-along-clause-law c =
    accepted_low c.args.fingers.now c.args.opened.now c.args.order.now c.args.lemmas.now c.requires

pub returns-clause-law : goal.returns-clause-law
returns-clause-law c =
    accepted_low c.args.fingers.now c.args.opened.now c.args.order.now c.args.lemmas.now c.requires
