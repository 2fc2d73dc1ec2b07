use Rattle.call_read.specs.declared.refusal.Refusal.TheVariants.{Lef}
use Rattle.call_read.specs.InputFiles.{macro_of}
use Rattle.call_read.specs.Refusals.{as_refusal}
use Rattle.call_read.specs.Sources.{LefFile}
use Rattle.cell_inputs.specs.Inputs.{unit_nm}
use Rattle.lef_read.specs.Macros.{macro_in}
use Rattle.call_read.proofs.Desks.{ended_so, file_refused, file_taken}
use Rattle.call_read.proofs.abstracts.read_macro.Goals as goal

pub returns-in_err-bytes-clause-comes : goal.returns-in_err-bytes-clause-comes
returns-in_err-bytes-clause-comes g c = file_refused (g.D.Desk.view c.args.desk.now) (g.D.Desk.view c.read_file.new.desk) (LefFile c.args.lef.now) (macro_of c.args.cell.now c.args.tech.now) c.read_file.result c.in_err-bytes.field-0.0 c.from_residual.result c.read_file.ensures.reads c.in_err-bytes.was c.from_residual.ensures

pub returns-clause-comes : goal.returns-clause-comes
returns-clause-comes g c =
    file_taken (g.D.Desk.view c.args.desk.now) (g.D.Desk.view c.read_file.new.desk) (LefFile c.args.lef.now) (macro_of c.args.cell.now c.args.tech.now) c.read_file.result c.in_ok-bytes.bytes c.macro_in.result c.read_file.ensures.only c.read_file.ensures.reads c.in_ok-bytes.was
    (ended_so (g.D.Desk.view c.read_file.new.desk) (g.D.Desk.view c.read_file.new.desk) (as_refusal Lef (macro_in c.in_ok-bytes.bytes c.args.cell.now (unit_nm c.args.tech.now))) c.macro_in.result (rw (← c.as_slice.ensures.bytes) c.macro_in.ensures.cell) (rw (← c.as_slice.ensures.bytes) c.macro_in.ensures.refusal))
