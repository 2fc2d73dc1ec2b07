use Rattle.std.proofs.lemmas.Result.{err_from_is_err_and}
use Rattle.trail_either.proofs.Texts.{either_one, either_only, either_refused, few_lemmas}
use Rattle.trail_either.proofs.read.read_either.Goals as goal

pub returns-in_err-evidence-clause-none : goal.returns-in_err-evidence-clause-none
returns-in_err-evidence-clause-none c =
    let p = err_from_is_err_and c.from_residual.result c.from_residual.ensures.1 in
    rw (p.1, p.2) (λ told evidence fits. either_refused c.args.bytes.now c.args.name.now c.args.kinds.now c.in_err-evidence.field-0.0 evidence c.requires.name c.show_limits.ensures (c.in_err-evidence.ensures.fault told) fits)

pub returns-clause-fits : goal.returns-clause-fits
returns-clause-fits c = (either_only c.args.bytes.now c.args.name.now c.args.kinds.now c.in_ok-evidence.evidence c.show_limits.ensures c.in_ok-evidence.ensures.evidence).0

pub returns-clause-text : goal.returns-clause-text
returns-clause-text c = (either_only c.args.bytes.now c.args.name.now c.args.kinds.now c.in_ok-evidence.evidence c.show_limits.ensures c.in_ok-evidence.ensures.evidence).1

pub returns-clause-few : goal.returns-clause-few
returns-clause-few c = few_lemmas c.args.bytes.now c.args.name.now c.in_ok-evidence.evidence (either_only c.args.bytes.now c.args.name.now c.args.kinds.now c.in_ok-evidence.evidence c.show_limits.ensures c.in_ok-evidence.ensures.evidence).1

pub returns-clause-one : goal.returns-clause-one
returns-clause-one c = λ other fits same. either_one c.args.bytes.now c.args.name.now c.args.kinds.now c.in_ok-evidence.evidence other c.requires.name c.show_limits.ensures c.in_ok-evidence.ensures.evidence fits same
