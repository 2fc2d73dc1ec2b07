use Rattle.std.proofs.lemmas.Result.{err_from_is_err_and}
use Rattle.bound_log.proofs.Injective.{read_one}
use Rattle.bound_log.proofs.Only.{read_only}
use Rattle.bound_log.proofs.Whole.{few_lemmas, refused}
use Rattle.bound_log.proofs.read.read_log.Goals as goal

pub returns-in_err-log-clause-none : goal.returns-in_err-log-clause-none
returns-in_err-log-clause-none c =
    let p = err_from_is_err_and c.from_residual.result c.from_residual.ensures.1 in
    rw (p.1, p.2) (λ told log fits. refused c.args.bytes.now c.args.name.now c.args.kinds.now c.in_err-log.field-0.0 log c.requires.name c.show_limits.ensures (c.in_err-log.ensures.fault told) fits)

pub returns-clause-fits : goal.returns-clause-fits
returns-clause-fits c = (read_only c.args.bytes.now c.args.name.now c.args.kinds.now c.in_ok-log.log c.show_limits.ensures c.in_ok-log.ensures.log).0

pub returns-clause-text : goal.returns-clause-text
returns-clause-text c = (read_only c.args.bytes.now c.args.name.now c.args.kinds.now c.in_ok-log.log c.show_limits.ensures c.in_ok-log.ensures.log).1

pub returns-clause-few : goal.returns-clause-few
returns-clause-few c = few_lemmas c.args.bytes.now c.args.name.now c.in_ok-log.log (read_only c.args.bytes.now c.args.name.now c.args.kinds.now c.in_ok-log.log c.show_limits.ensures c.in_ok-log.ensures.log).1

pub returns-clause-one : goal.returns-clause-one
returns-clause-one c = λ other same. read_one c.args.bytes.now c.args.name.now c.args.kinds.now c.in_ok-log.log other c.show_limits.ensures c.in_ok-log.ensures.log same
