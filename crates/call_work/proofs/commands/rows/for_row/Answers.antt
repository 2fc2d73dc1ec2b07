use Rattle.std.proofs.Common.{Ok, Some, inl, refl}
use Rattle.call_read.proofs.Desks.{only_refl}
use Rattle.call_read.specs.Reading.{Ends}
use Rattle.call_words.specs.Words.{Row}
use Rattle.call_work.proofs.Keeping.{keeps_behind, keeps_refusal, keeps_short, kept_row}
use Rattle.call_work.specs.Commands.{gathered, rowing_of}
use Rattle.cell_make.specs.RowInputs.{RowInputs}
use Rattle.layout_commands.specs.Row.{rowing}
use Rattle.call_work.proofs.commands.rows.for_row.Goals as goal

pub returns-in_err-stem-clause-comes : goal.returns-in_err-stem-clause-comes
returns-in_err-stem-clause-comes g c =
    keeps_short (g.D.Desk.view c.args.desk.now) (g.D.Desk.view c.args.desk.now) (gathered (Some (Row c.args.asked.now c.args.out.now))) c.from_residual.result c.from_residual.ensures

pub returns-in_err-inputs-clause-comes : goal.returns-in_err-inputs-clause-comes
returns-in_err-inputs-clause-comes g c =
    keeps_refusal (g.D.Desk.view c.args.desk.now) (g.D.Desk.view c.read_row.new.desk) (g.D.Desk.view c.read_row.new.desk)
    (rowing c.args.asked.now) (λ (inputs : RowInputs). Ends (Ok (rowing_of c.args.out.now inputs))) c.read_row.result c.in_err-inputs.field-0.0 c.from_residual-in_err-inputs.result
    (only_refl (g.D.Desk.view c.read_row.new.desk))
    c.read_row.ensures.comes
    c.in_err-inputs.was
    c.from_residual-in_err-inputs.ensures

pub returns-clause-comes : goal.returns-clause-comes
returns-clause-comes g c =
    keeps_behind (g.D.Desk.view c.args.desk.now) (g.D.Desk.view c.read_row.new.desk) (g.D.Desk.view c.read_row.new.desk)
    (rowing c.args.asked.now) (λ (inputs : RowInputs). Ends (Ok (rowing_of c.args.out.now inputs))) c.read_row.result c.in_ok-inputs.inputs (Ok _)
    c.read_row.ensures.only
    (only_refl (g.D.Desk.view c.read_row.new.desk))
    c.read_row.ensures.comes
    c.in_ok-inputs.was
    (Ok (rowing_of c.args.out.now c.in_ok-inputs.inputs), inl refl, kept_row c.in_ok-inputs.inputs c.args.out.now c.in_ok-stem.stem c.in_ok-stem.ensures)
