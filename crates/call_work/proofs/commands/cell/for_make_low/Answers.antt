use Rattle.std.proofs.Common.{Ok, Some, inl, refl}
use Rattle.call_read.specs.InputFiles.{inputs_from}
use Rattle.call_words.specs.Words.{MakeLow}
use Rattle.cell_inputs.specs.Inputs.{Inputs}
use Rattle.call_work.specs.Commands.{gathered, making_low}
use Rattle.call_read.specs.Reading.{Ends}
use Rattle.call_read.proofs.Desks.{only_refl}
use Rattle.call_work.proofs.Keeping.{keeps_behind, keeps_refusal, keeps_short, kept_low}
use Rattle.call_work.proofs.commands.cell.for_make_low.Goals as goal

pub returns-in_err-stem-clause-comes : goal.returns-in_err-stem-clause-comes
returns-in_err-stem-clause-comes g c =
    keeps_short (g.D.Desk.view c.args.desk.now) (g.D.Desk.view c.args.desk.now) (gathered (Some (MakeLow c.args.asked.now c.args.out.now c.args.style c.args.evidence))) c.from_residual.result c.from_residual.ensures

pub returns-in_err-inputs-clause-comes : goal.returns-in_err-inputs-clause-comes
returns-in_err-inputs-clause-comes g c =
    keeps_refusal (g.D.Desk.view c.args.desk.now) (g.D.Desk.view c.read_inputs.new.desk) (g.D.Desk.view c.read_inputs.new.desk)
    (inputs_from c.args.asked.now) (λ (inputs : Inputs). Ends (Ok (making_low c.args.evidence c.args.out.now c.args.style inputs))) c.read_inputs.result c.in_err-inputs.field-0.0 c.from_residual-in_err-inputs.result
    (only_refl (g.D.Desk.view c.read_inputs.new.desk))
    c.read_inputs.ensures.comes
    c.in_err-inputs.was
    c.from_residual-in_err-inputs.ensures

pub returns-clause-comes : goal.returns-clause-comes
returns-clause-comes g c =
    keeps_behind (g.D.Desk.view c.args.desk.now) (g.D.Desk.view c.read_inputs.new.desk) (g.D.Desk.view c.read_inputs.new.desk)
    (inputs_from c.args.asked.now) (λ (inputs : Inputs). Ends (Ok (making_low c.args.evidence c.args.out.now c.args.style inputs))) c.read_inputs.result c.in_ok-inputs.inputs (Ok _)
    c.read_inputs.ensures.only
    (only_refl (g.D.Desk.view c.read_inputs.new.desk))
    c.read_inputs.ensures.comes
    c.in_ok-inputs.was
    (Ok (making_low c.args.evidence c.args.out.now c.args.style c.in_ok-inputs.inputs), inl refl, kept_low c.args.evidence c.in_ok-inputs.inputs c.args.out.now c.in_ok-stem.stem c.args.style c.in_ok-stem.ensures)
