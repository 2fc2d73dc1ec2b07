use Rattle.pool_certificate.proofs.Least.{accepted_low, accepted_true, least_low, row_accepted, row_tells}
use Rattle.pool_certificate.proofs.Refusals.{faults_never, row_err}
use Rattle.pool_certificate.proofs.certify.check_certificate.Goals as goal

pub returns-in_err-proved-clause-law : goal.returns-in_err-proved-clause-law
returns-in_err-proved-clause-law c = accepted_low c.args.fingers.now c.args.certificate.now c.requires.fingers

pub returns-clause-never : goal.returns-clause-never
returns-clause-never c =
    faults_never c.args.fingers.now c.args.certificate.now c.check_row.result
    (row_err c.args.fingers.now c.args.certificate.now c.in_ok-proved.proved c.in_ok-proved.ensures.proved
    c.in_ok-proved.ensures.few_ways c.check_row.result c.check_row.ensures.refused)

pub returns-clause-least : goal.returns-clause-least
returns-clause-least c =
    least_low c.args.fingers.now c.args.certificate.now c.requires.fingers c.check_row.result
    (row_accepted c.args.fingers.now c.args.certificate.now c.in_ok-proved.proved c.in_ok-proved.ensures.proved
    c.check_row.result c.check_row.ensures.passes)

pub returns-clause-low : goal.returns-clause-low
returns-clause-low c =
    row_tells c.args.fingers.now c.args.certificate.now c.requires.fingers c.in_ok-proved.proved
    c.in_ok-proved.ensures.proved c.check_row.result c.check_row.ensures.told

pub returns-clause-law : goal.returns-clause-law
returns-clause-law c = accepted_low c.args.fingers.now c.args.certificate.now c.requires.fingers

pub returns-clause-lemmas : goal.returns-clause-lemmas
returns-clause-lemmas c =
    accepted_true c.args.fingers.now c.args.certificate.now c.check_row.result
    (row_accepted c.args.fingers.now c.args.certificate.now c.in_ok-proved.proved c.in_ok-proved.ensures.proved
    c.check_row.result c.check_row.ensures.passes)
