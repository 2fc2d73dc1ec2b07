use Rattle.std.proofs.Common.{Ok, inl, refl}
use Rattle.call_read.specs.InputFiles.{inputs_from}
use Rattle.cell_inputs.specs.Inputs.{Inputs}
use Rattle.call_work.specs.Commands.{planning}
use Rattle.call_read.specs.Reading.{Ends}
use Rattle.call_read.proofs.Desks.{only_refl}
use Rattle.call_work.proofs.Keeping.{keeps_behind, keeps_refusal}
use Rattle.call_work.proofs.commands.cell.for_plan.Goals as goal

pub returns-in_err-inputs-clause-comes : goal.returns-in_err-inputs-clause-comes
returns-in_err-inputs-clause-comes g c =
    keeps_refusal (g.D.Desk.view c.args.desk.now) (g.D.Desk.view c.read_inputs.new.desk) (g.D.Desk.view c.read_inputs.new.desk)
    (inputs_from c.args.asked.now) (λ (inputs : Inputs). Ends (Ok (planning c.args.evidence inputs))) c.read_inputs.result c.in_err-inputs.field-0.0 c.from_residual.result
    (only_refl (g.D.Desk.view c.read_inputs.new.desk))
    c.read_inputs.ensures.comes
    c.in_err-inputs.was
    c.from_residual.ensures

pub returns-clause-comes : goal.returns-clause-comes
returns-clause-comes g c =
    keeps_behind (g.D.Desk.view c.args.desk.now) (g.D.Desk.view c.read_inputs.new.desk) (g.D.Desk.view c.read_inputs.new.desk)
    (inputs_from c.args.asked.now) (λ (inputs : Inputs). Ends (Ok (planning c.args.evidence inputs))) c.read_inputs.result c.in_ok-inputs.inputs (Ok _)
    c.read_inputs.ensures.only
    (only_refl (g.D.Desk.view c.read_inputs.new.desk))
    c.read_inputs.ensures.comes
    c.in_ok-inputs.was
    (Ok (planning c.args.evidence c.in_ok-inputs.inputs), inl refl, refl)
