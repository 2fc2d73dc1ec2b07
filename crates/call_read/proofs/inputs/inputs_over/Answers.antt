use Rattle.std.proofs.Common.{ℕ, List, ap, subst}
use Rattle.cell_num.specs.Names.{lowered}
use Rattle.call_read.specs.Inputs.{inputs_in}
use Rattle.call_read.specs.Read.{IsRead}
use Rattle.call_read.specs.Reading.{Ends}
use Rattle.call_words.specs.Asked.{CellAsked}
use Rattle.call_read.specs.Sources.{SpiceFile}
use Rattle.call_read.proofs.Desks.{ended_so, file_refused, file_taken}
use Rattle.call_read.proofs.inputs.inputs_over.Goals as goal

pub returns-in_err-bytes-clause-comes : goal.returns-in_err-bytes-clause-comes
returns-in_err-bytes-clause-comes g c = file_refused (g.D.Desk.view c.args.desk.now) (g.D.Desk.view c.read_file.new.desk) (SpiceFile c.args.asked.now.spice) (λ (bytes : List ℕ). Ends (inputs_in bytes (lowered c.args.asked.now.cell) c.args.tech)) c.read_file.result c.in_err-bytes.field-0.0 c.from_residual.result (subst (λ (spice : List ℕ). IsRead (g.D.Desk.view c.args.desk.now) (g.D.Desk.view c.read_file.new.desk) (SpiceFile spice) c.read_file.result) (ap (λ (x : CellAsked). x.spice) c.asked.view_is) c.read_file.ensures.reads) c.in_err-bytes.was c.from_residual.ensures

pub returns-clause-comes : goal.returns-clause-comes
returns-clause-comes g c =
    file_taken (g.D.Desk.view c.args.desk.now) (g.D.Desk.view c.read_file.new.desk) (SpiceFile c.args.asked.now.spice) (λ (bytes : List ℕ). Ends (inputs_in bytes (lowered c.args.asked.now.cell) c.args.tech)) c.read_file.result c.in_ok-bytes.bytes c.inputs_in.result c.read_file.ensures.only (subst (λ (spice : List ℕ). IsRead (g.D.Desk.view c.args.desk.now) (g.D.Desk.view c.read_file.new.desk) (SpiceFile spice) c.read_file.result) (ap (λ (x : CellAsked). x.spice) c.asked.view_is) c.read_file.ensures.reads) c.in_ok-bytes.was
    (ended_so (g.D.Desk.view c.read_file.new.desk) (g.D.Desk.view c.read_file.new.desk) (inputs_in c.in_ok-bytes.bytes (lowered c.args.asked.now.cell) c.args.tech) c.inputs_in.result
    (rw (← c.as_slice.ensures.bytes, ← c.in_ok-name.ensures.lower) c.inputs_in.ensures.inputs)
    (rw (← c.as_slice.ensures.bytes, ← c.in_ok-name.ensures.lower) c.inputs_in.ensures.refusal))
