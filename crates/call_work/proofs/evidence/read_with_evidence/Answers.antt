use Rattle.std.proofs.Common.{Err, refl}
use Rattle.call_work.proofs.Keeping.{keeps_uninput, keeps_unread, reads_both, refuses_both}
use Rattle.call_work.proofs.Quiet.{quiet_behind}
use Rattle.call_work.specs.Evidence.{evidence_file}
use Rattle.call_work.proofs.evidence.read_with_evidence.Goals as goal

pub returns-in_err-inputs-clause-comes : goal.returns-in_err-inputs-clause-comes
returns-in_err-inputs-clause-comes g c =
    refuses_both (g.D.Desk.view c.args.desk.now) (g.D.Desk.view c.read_inputs.new.desk) c.args.asked.now c.args.evidence c.args.file.now c.in_err-inputs.field-0.0 c.from_residual.result
    c.from_residual.ensures
    (λ material. keeps_uninput (g.D.Desk.view c.args.desk.now) (g.D.Desk.view c.read_inputs.new.desk) c.args.asked.now (evidence_file c.args.evidence c.args.file.now) material c.read_inputs.result c.in_err-inputs.field-0.0 (Err c.in_err-inputs.field-0.0)
    c.read_inputs.ensures.comes
    c.in_err-inputs.was
    (refl, refl))

pub returns-clause-comes : goal.returns-clause-comes
returns-clause-comes g c =
    reads_both (g.D.Desk.view c.args.desk.now) (g.D.Desk.view c.read_inputs.new.desk) (g.D.Desk.view c.read_evidence.new.desk) c.args.asked.now c.args.evidence c.args.file.now c.read_inputs.result c.in_ok-inputs.inputs c.in_ok-file.file
    c.read_inputs.ensures.only
    c.read_evidence.ensures.only
    c.read_inputs.ensures.comes
    c.in_ok-inputs.was
    c.in_ok-file.ensures.read

pub returns-in_err-file-clause-comes : goal.returns-in_err-file-clause-comes
returns-in_err-file-clause-comes g c =
    refuses_both (g.D.Desk.view c.args.desk.now) (g.D.Desk.view c.read_evidence.new.desk) c.args.asked.now c.args.evidence c.args.file.now c.in_err-file.field-0.0 c.from_residual-in_err-file.result
    c.from_residual-in_err-file.ensures
    (λ material. keeps_unread (g.D.Desk.view c.args.desk.now) (g.D.Desk.view c.read_inputs.new.desk) (g.D.Desk.view c.read_evidence.new.desk) c.args.asked.now (evidence_file c.args.evidence c.args.file.now) material c.read_inputs.result c.in_ok-inputs.inputs c.in_err-file.field-0.0 (Err c.in_err-file.field-0.0)
    c.read_inputs.ensures.only
    c.read_evidence.ensures.only
    c.read_inputs.ensures.comes
    c.in_ok-inputs.was
    c.in_err-file.ensures.refused
    (refl, refl))

pub returns-in_err-file-clause-quiet : goal.returns-in_err-file-clause-quiet
returns-in_err-file-clause-quiet g c =
    quiet_behind (g.D.Desk.view c.args.desk.now) (g.D.Desk.view c.read_inputs.new.desk) (g.D.Desk.view c.read_evidence.new.desk)
    c.read_inputs.result c.in_ok-inputs.inputs c.read_evidence.result c.in_err-file.field-0.0 c.from_residual-in_err-file.result
    c.in_ok-inputs.was
    c.read_inputs.ensures.quiet
    c.in_err-file.was
    c.read_evidence.ensures.quiet
    c.from_residual-in_err-file.ensures
