use Rattle.call_read.specs.declared.refusal.Refusal.TheVariants.{Gds}
use Rattle.call_read.specs.InputFiles.{shapes_in}
use Rattle.call_read.specs.Refusals.{as_refusal}
use Rattle.call_read.specs.Sources.{GdsFile}
use Rattle.gds_read.specs.Decoding.{decoded}
use Rattle.call_read.proofs.Desks.{ended_so, file_refused, file_taken}
use Rattle.call_read.proofs.drawing.read_shapes.Goals as goal

pub returns-in_err-bytes-clause-comes : goal.returns-in_err-bytes-clause-comes
returns-in_err-bytes-clause-comes g c = file_refused (g.D.Desk.view c.args.desk.now) (g.D.Desk.view c.read_file.new.desk) (GdsFile c.args.gds.now) (shapes_in c.args.cell.now c.args.tech.now) c.read_file.result c.in_err-bytes.field-0.0 c.from_residual.result c.read_file.ensures.reads c.in_err-bytes.was c.from_residual.ensures

pub returns-clause-comes : goal.returns-clause-comes
returns-clause-comes g c =
    file_taken (g.D.Desk.view c.args.desk.now) (g.D.Desk.view c.read_file.new.desk) (GdsFile c.args.gds.now) (shapes_in c.args.cell.now c.args.tech.now) c.read_file.result c.in_ok-bytes.bytes c.shapes_in.result c.read_file.ensures.only c.read_file.ensures.reads c.in_ok-bytes.was
    (ended_so (g.D.Desk.view c.read_file.new.desk) (g.D.Desk.view c.read_file.new.desk) (as_refusal Gds (decoded c.in_ok-bytes.bytes c.args.cell.now c.args.tech.now.lambda_nm)) c.shapes_in.result (rw (← c.as_slice.ensures.bytes) c.shapes_in.ensures.shapes) (rw (← c.as_slice.ensures.bytes) c.shapes_in.ensures.refusal))
