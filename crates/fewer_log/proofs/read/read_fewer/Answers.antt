use Rattle.std.proofs.lemmas.Result.{err_from_is_err_and}
use Rattle.fewer_log.proofs.Whole.{few_bytes, fewer_one, fewer_only, fewer_refused}
use Rattle.fewer_log.proofs.read.read_fewer.Goals as goal

pub returns-in_err-certificate-clause-none : goal.returns-in_err-certificate-clause-none
returns-in_err-certificate-clause-none c =
    let p = err_from_is_err_and c.from_residual.result c.from_residual.ensures.1 in
    rw (p.1, p.2) (λ told other fits. fewer_refused c.args.bytes.now c.args.name.now c.args.kinds.now c.in_err-certificate.field-0.0 other c.requires.name c.show_limits.ensures (c.in_err-certificate.ensures.fault told) fits)

pub returns-in_err-certificate-clause-fault : goal.returns-in_err-certificate-clause-fault
returns-in_err-certificate-clause-fault c =
    let p = err_from_is_err_and c.from_residual.result c.from_residual.ensures.1 in
    rw (p.1, p.2) (λ told. c.in_err-certificate.ensures.fault told)

pub returns-clause-fits : goal.returns-clause-fits
returns-clause-fits c =
    (fewer_only c.args.bytes.now c.args.name.now c.args.kinds.now c.in_ok-certificate.certificate c.show_limits.ensures.few_nets c.in_ok-certificate.ensures.certificate).0

pub returns-clause-text : goal.returns-clause-text
returns-clause-text c =
    (fewer_only c.args.bytes.now c.args.name.now c.args.kinds.now c.in_ok-certificate.certificate c.show_limits.ensures.few_nets c.in_ok-certificate.ensures.certificate).1

pub returns-clause-few : goal.returns-clause-few
returns-clause-few c =
    few_bytes c.args.bytes.now c.args.name.now c.in_ok-certificate.certificate
    (fewer_only c.args.bytes.now c.args.name.now c.args.kinds.now c.in_ok-certificate.certificate c.show_limits.ensures.few_nets c.in_ok-certificate.ensures.certificate).1

pub returns-clause-one : goal.returns-clause-one
returns-clause-one c =
    λ other fits same. fewer_one c.args.bytes.now c.args.name.now c.args.kinds.now c.in_ok-certificate.certificate other c.requires.name c.show_limits.ensures c.in_ok-certificate.ensures.certificate fits same
