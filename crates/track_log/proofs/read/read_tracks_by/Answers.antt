use Rattle.std.proofs.lemmas.Result.{err_from_is_err_and}
use Rattle.track_log.proofs.Only.{read_one_by, read_only}
use Rattle.track_log.proofs.Whole.{few_lemmas, refused_by}
use Rattle.track_log.proofs.read.read_tracks_by.Goals as goal

pub returns-in_err-certificate-clause-none : goal.returns-in_err-certificate-clause-none
returns-in_err-certificate-clause-none c =
    let p = err_from_is_err_and c.from_residual.result c.from_residual.ensures.1 in
    rw (p.1, p.2) (λ told certificate fits. refused_by c.args.course c.args.bytes.now c.args.name.now c.args.kinds.now c.in_err-certificate.field-0.0 certificate c.requires.name c.show_limits.ensures (c.in_err-certificate.ensures.fault told) fits)

pub returns-clause-fits : goal.returns-clause-fits
returns-clause-fits c = (read_only c.args.course c.args.bytes.now c.args.name.now c.args.kinds.now c.in_ok-certificate.certificate c.show_limits.ensures c.in_ok-certificate.ensures.certificate).0

pub returns-clause-text : goal.returns-clause-text
returns-clause-text c = (read_only c.args.course c.args.bytes.now c.args.name.now c.args.kinds.now c.in_ok-certificate.certificate c.show_limits.ensures c.in_ok-certificate.ensures.certificate).1

pub returns-clause-few : goal.returns-clause-few
returns-clause-few c =
    few_lemmas c.args.course c.args.bytes.now c.args.name.now c.in_ok-certificate.certificate (read_only c.args.course c.args.bytes.now c.args.name.now c.args.kinds.now c.in_ok-certificate.certificate c.show_limits.ensures c.in_ok-certificate.ensures.certificate).1

pub returns-clause-one : goal.returns-clause-one
returns-clause-one c = λ other fits same.
    read_one_by c.args.course c.args.bytes.now c.args.name.now c.args.kinds.now c.in_ok-certificate.certificate other c.requires.name c.show_limits.ensures c.in_ok-certificate.ensures.certificate fits same
