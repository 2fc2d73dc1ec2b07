use Rattle.std.proofs.lemmas.Result.{err_from_is_err_and}
use Rattle.net_extract.proofs.Extracting.{says_on}
use Rattle.net_extract.proofs.drawing.extract.Goals as goal

pub returns-in_err-devices-clause-many : goal.returns-in_err-devices-clause-many
returns-in_err-devices-clause-many c =
    let p = err_from_is_err_and c.from_residual.result c.from_residual.ensures.1 in
    rw (p.1, p.2) (says_on c.args.shapes.now c.in_err-devices.field-0.0 c.in_err-devices.ensures.many)
