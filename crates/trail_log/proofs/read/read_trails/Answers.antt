use Rattle.std.proofs.lemmas.Result.{err_from_is_err_and}
use Rattle.trail_log.proofs.Only.{read_one, read_only}
use Rattle.trail_log.proofs.Whole.{few_lemmas, refused}
use Rattle.trail_log.proofs.read.read_trails.Goals as goal

pub returns-in_err-trails-clause-none : goal.returns-in_err-trails-clause-none
returns-in_err-trails-clause-none c =
    let p = err_from_is_err_and c.from_residual.result c.from_residual.ensures.1 in
    rw (p.1, p.2) (λ told trails fits. refused c.args.bytes.now c.args.name.now c.args.kinds.now c.in_err-trails.field-0.0 trails c.requires.name c.show_limits.ensures (c.in_err-trails.ensures.fault told) fits)

pub returns-clause-fits : goal.returns-clause-fits
returns-clause-fits c = (read_only c.args.bytes.now c.args.name.now c.args.kinds.now c.in_ok-trails.trails c.in_ok-trails.ensures.trails).0

pub returns-clause-text : goal.returns-clause-text
returns-clause-text c = (read_only c.args.bytes.now c.args.name.now c.args.kinds.now c.in_ok-trails.trails c.in_ok-trails.ensures.trails).1

pub returns-clause-few : goal.returns-clause-few
returns-clause-few c = few_lemmas c.args.bytes.now c.args.name.now c.in_ok-trails.trails (read_only c.args.bytes.now c.args.name.now c.args.kinds.now c.in_ok-trails.trails c.in_ok-trails.ensures.trails).1

pub returns-clause-one : goal.returns-clause-one
returns-clause-one c = λ other fits same. read_one c.args.bytes.now c.args.name.now c.args.kinds.now c.in_ok-trails.trails other c.requires.name c.show_limits.ensures c.in_ok-trails.ensures.trails fits same
