use Rattle.std.proofs.Common.{sym}
use Rattle.std.proofs.lemmas.Result.{err_from_is_err_and}
use Rattle.gds_read.specs.Elements.{inside_of}
use Rattle.gds_read.proofs.Limits.{path_fault}
use Rattle.gds_read.proofs.element.add_path.Goals as goal

pub returns-in_err-path-clause-adds : goal.returns-in_err-path-clause-adds
returns-in_err-path-clause-adds c =
    let p = err_from_is_err_and c.from_residual.result c.from_residual.ensures.1 in
    rw (p.1, p.2) (path_fault c.args.grid.now c.args.origin.now.stands c.args.origin.now.outer (inside_of c.args.bytes.now c.args.rec.now) c.in-Some.draw_context c.args.progress.now
    (record { shapes = record { rects = c.path.new.rects; labels = c.args.progress.now.shapes.labels }; refs = c.args.progress.now.refs }) c.path.new.rects c.in_err-path.field-0.0 (sym c.in-Some.ensures) c.in_err-path.ensures)
