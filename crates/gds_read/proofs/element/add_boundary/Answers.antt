use Rattle.std.proofs.Common.{sym}
use Rattle.std.proofs.lemmas.Result.{err_from_is_err_and}
use Rattle.gds_read.specs.Elements.{inside_of}
use Rattle.gds_read.proofs.Limits.{boundary_fault}
use Rattle.gds_read.proofs.element.add_boundary.Goals as goal

pub returns-in_err-boundary-clause-adds : goal.returns-in_err-boundary-clause-adds
returns-in_err-boundary-clause-adds c =
    let p = err_from_is_err_and c.from_residual.result c.from_residual.ensures.1 in
    rw (p.1, p.2) (boundary_fault c.args.grid.now c.args.origin.now.stands c.args.origin.now.outer (inside_of c.args.bytes.now c.args.rec.now) c.in-Some.draw_context c.args.progress.now
    (record { shapes = record { rects = c.boundary.new.rects; labels = c.args.progress.now.shapes.labels }; refs = c.args.progress.now.refs }) c.boundary.new.rects c.element_content-xy.result.now c.in_err-boundary.field-0.0 (sym c.in-Some.ensures) c.element_content-xy.ensures c.in_err-boundary.ensures)
