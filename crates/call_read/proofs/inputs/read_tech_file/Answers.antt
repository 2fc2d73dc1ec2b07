use Rattle.call_read.specs.declared.refusal.Refusal.TheVariants.{Tech}
use Rattle.call_read.specs.InputFiles.{technology_in}
use Rattle.call_read.specs.Refusals.{as_refusal}
use Rattle.call_read.specs.Sources.{TechFile}
use Rattle.tech_file.specs.Reading.{technology}
use Rattle.call_read.proofs.Desks.{ended_so, file_refused, file_taken}
use Rattle.call_read.proofs.inputs.read_tech_file.Goals as goal

pub returns-in_err-bytes-clause-comes : goal.returns-in_err-bytes-clause-comes
returns-in_err-bytes-clause-comes g c = file_refused (g.D.Desk.view c.args.desk.now) (g.D.Desk.view c.read_file.new.desk) (TechFile c.args.name.now) technology_in c.read_file.result c.in_err-bytes.field-0.0 c.from_residual.result c.read_file.ensures.reads c.in_err-bytes.was c.from_residual.ensures

pub returns-clause-comes : goal.returns-clause-comes
returns-clause-comes g c =
    file_taken (g.D.Desk.view c.args.desk.now) (g.D.Desk.view c.read_file.new.desk) (TechFile c.args.name.now) technology_in c.read_file.result c.in_ok-bytes.bytes c.technology_in.result c.read_file.ensures.only c.read_file.ensures.reads c.in_ok-bytes.was
    (ended_so (g.D.Desk.view c.read_file.new.desk) (g.D.Desk.view c.read_file.new.desk) (as_refusal Tech (technology c.in_ok-bytes.bytes)) c.technology_in.result (rw (← c.as_slice.ensures.bytes) c.technology_in.ensures.technology) (rw (← c.as_slice.ensures.bytes) c.technology_in.ensures.refusal))
