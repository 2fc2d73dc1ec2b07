use Rattle.std.proofs.Common.{Err, inr, refl}
use Rattle.call_read.specs.Read.{IsRead}
use Rattle.call_read.specs.Sources.{LogFile}
use Rattle.call_read.specs.declared.refusal.Refusal.{Refusal}
use Rattle.call_read.specs.declared.refusal.Refusal.TheVariants.{NoMemory}
use Rattle.call_work.proofs.Keeping.{holds_handed, holds_log}
use Rattle.call_work.proofs.Quiet.{quiet_handed}
use Rattle.cell_commands.proofs.LogReads.{room_begun}
use Rattle.call_work.proofs.evidence.read_log.Goals as goal

pub read_to-requires : goal.read_to-requires
read_to-requires g c = room_begun c.args.inputs.now c.in_ok-log.log.reader c.in_ok-log.log.checker c.in_ok-log.ensures

pub returns-in_err-log-clause-refused : goal.returns-in_err-log-clause-refused
returns-in_err-log-clause-refused g c =
    holds_handed (λ (e : Refusal). IsRead (g.D.Desk.view c.args.desk.now) (g.D.Desk.view c.args.desk.now) (LogFile c.args.file.now) (Err e)) c.from_residual.result NoMemory c.from_residual.ensures (inr refl)

pub returns-in_err-read_to-clause-refused : goal.returns-in_err-read_to-clause-refused
returns-in_err-read_to-clause-refused g c =
    holds_handed (λ (e : Refusal). IsRead (g.D.Desk.view c.args.desk.now) (g.D.Desk.view c.read_to.new.desk) (LogFile c.args.file.now) (Err e)) c.from_residual-in_err-read_to.result c.in_err-read_to.field-0.0 c.from_residual-in_err-read_to.ensures
    c.in_err-read_to.ensures.refused

pub returns-in_err-read_to-clause-quiet : goal.returns-in_err-read_to-clause-quiet
returns-in_err-read_to-clause-quiet g c =
    quiet_handed (g.D.Desk.view c.args.desk.now) (g.D.Desk.view c.args.desk.now) (g.D.Desk.view c.read_to.new.desk)
    c.read_to.result c.in_err-read_to.field-0.0 c.from_residual-in_err-read_to.result
    refl
    c.in_err-read_to.was
    c.read_to.ensures.quiet
    c.from_residual-in_err-read_to.ensures

pub returns-clause-read : goal.returns-clause-read
returns-clause-read g c =
    holds_log (g.D.Desk.view c.args.desk.now) (g.D.Desk.view c.read_to.new.desk) c.args.file.now c.args.inputs.now c.in_ok-log.log c.read_to.new.sink c.in_ok-log.ensures c.in_ok-read_to.ensures.bytes
