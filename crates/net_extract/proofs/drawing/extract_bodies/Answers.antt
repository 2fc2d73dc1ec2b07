use Rattle.std.proofs.Common.{refl}
use Rattle.std.proofs.lemmas.Result.{err_from_is_err_and}
use Rattle.net_extract.proofs.Extracting.{says_on, extracts_bodies}
use Rattle.net_extract.proofs.drawing.extract_bodies.Goals as goal

pub returns-in_err-mapped-clause-many : goal.returns-in_err-mapped-clause-many
returns-in_err-mapped-clause-many c =
    let p = err_from_is_err_and c.from_residual.result c.from_residual.ensures.1 in
    rw (p.1, p.2) (says_on c.args.shapes.now c.in_err-mapped.field-0.0 c.in_err-mapped.ensures.many)

pub returns-clause-ok : goal.returns-clause-ok
returns-clause-ok c = extracts_bodies c.args.shapes.now c.in_ok-mapped.mapped (record { netlist = record { names = c.in_ok-mapped.mapped.named.names; devices = c.in_ok-mapped.mapped.devices }; bodies = c.in-Ok.bodies }) c.in_ok-mapped.ensures.ok refl refl c.in-Ok.ensures
