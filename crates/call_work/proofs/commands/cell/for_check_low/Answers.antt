use Rattle.std.proofs.Common.{ℕ, List, Result, refl, subst}
use Rattle.call_read.specs.Read.{IsRead}
use Rattle.call_read.specs.Sources.{TrackFile}
use Rattle.call_read.specs.declared.refusal.Refusal.{Refusal}
use Rattle.call_work.specs.Commands.{checking_low}
use Rattle.call_work.proofs.Keeping.{keeps_both, keeps_uninput, keeps_unread}
use Rattle.call_work.proofs.Quiet.{quiet_behind}
use Rattle.call_work.proofs.commands.cell.for_check_low.Goals as goal

pub returns-in_err-inputs-clause-comes : goal.returns-in_err-inputs-clause-comes
returns-in_err-inputs-clause-comes g c =
    keeps_uninput (g.D.Desk.view c.args.desk.now) (g.D.Desk.view c.read_inputs.new.desk) c.args.asked.now (TrackFile c.args.file.now) checking_low c.read_inputs.result c.in_err-inputs.field-0.0 c.from_residual.result
    c.read_inputs.ensures.comes
    c.in_err-inputs.was
    c.from_residual.ensures

pub returns-clause-comes : goal.returns-clause-comes
returns-clause-comes g c =
    keeps_both (g.D.Desk.view c.args.desk.now) (g.D.Desk.view c.read_inputs.new.desk) (g.D.Desk.view c.read_file.new.desk) c.args.asked.now (TrackFile c.args.file.now) checking_low c.read_inputs.result c.in_ok-inputs.inputs c.in_ok-bytes.bytes _
    c.read_inputs.ensures.only
    c.read_file.ensures.only
    c.read_inputs.ensures.comes
    c.in_ok-inputs.was
    (subst (λ (read : Result (List ℕ) Refusal). IsRead (g.D.Desk.view c.read_inputs.new.desk) (g.D.Desk.view c.read_file.new.desk) (TrackFile c.args.file.now) read) c.in_ok-bytes.was c.read_file.ensures.reads)
    refl

pub returns-in_err-bytes-clause-comes : goal.returns-in_err-bytes-clause-comes
returns-in_err-bytes-clause-comes g c =
    keeps_unread (g.D.Desk.view c.args.desk.now) (g.D.Desk.view c.read_inputs.new.desk) (g.D.Desk.view c.read_file.new.desk) c.args.asked.now (TrackFile c.args.file.now) checking_low c.read_inputs.result c.in_ok-inputs.inputs c.in_err-bytes.field-0.0 c.from_residual-in_err-bytes.result
    c.read_inputs.ensures.only
    c.read_file.ensures.only
    c.read_inputs.ensures.comes
    c.in_ok-inputs.was
    (subst (λ (read : Result (List ℕ) Refusal). IsRead (g.D.Desk.view c.read_inputs.new.desk) (g.D.Desk.view c.read_file.new.desk) (TrackFile c.args.file.now) read) c.in_err-bytes.was c.read_file.ensures.reads)
    c.from_residual-in_err-bytes.ensures

pub returns-in_err-bytes-clause-quiet : goal.returns-in_err-bytes-clause-quiet
returns-in_err-bytes-clause-quiet g c =
    quiet_behind (g.D.Desk.view c.args.desk.now) (g.D.Desk.view c.read_inputs.new.desk) (g.D.Desk.view c.read_file.new.desk)
    c.read_inputs.result c.in_ok-inputs.inputs c.read_file.result c.in_err-bytes.field-0.0 c.from_residual-in_err-bytes.result
    c.in_ok-inputs.was
    c.read_inputs.ensures.quiet
    c.in_err-bytes.was
    c.read_file.ensures.quiet
    c.from_residual-in_err-bytes.ensures
