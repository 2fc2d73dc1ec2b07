use Rattle.std.proofs.lemmas.Result.{err_from_is_err_and}
use Rattle.net_extract.proofs.Extracting.{stray_refused}
use Rattle.net_extract.proofs.drawing.all_named.Goals as goal

pub returns-in_err-check_strays-clause-refused : goal.returns-in_err-check_strays-clause-refused
returns-in_err-check_strays-clause-refused c =
    let p = err_from_is_err_and c.from_residual.result c.from_residual.ensures.1 in
    rw (p.1, p.2) (stray_refused c.args.map.now.deck c.args.shapes.now c.args.map.now.wires.items c.as_slice.result.now c.as_slice-2.result.now c.args.map.now.firsts.items c.in_err-check_strays.field-0.0 c.requires.regular c.requires.map c.as_slice.ensures.value c.as_slice-2.ensures c.in_err-check_strays.ensures.stray)
