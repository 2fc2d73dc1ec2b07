use Rattle.std.proofs.Common.{Ok, inl, refl}
use Rattle.call_read.specs.InputFiles.{macro_from}
use Rattle.call_read.specs.Reading.{Ends}
use Rattle.call_read.proofs.Desks.{only_refl, refused, taken}
use Rattle.lef_read.specs.declared.cell.Macro.{Macro}
use Rattle.layout_commands.specs.Agree.{compared}
use Rattle.layout_commands.proofs.compared.with_macro.Goals as goal

pub returns-in_err-cell-clause-comes : goal.returns-in_err-cell-clause-comes
returns-in_err-cell-clause-comes g c =
    refused (g.D.Desk.view c.args.desk.now) (g.D.Desk.view c.read_macro.new.desk) (g.D.Desk.view c.read_macro.new.desk)
    (macro_from c.args.lef.now c.args.name.now c.args.tech.now) (λ (cell : Macro). Ends (Ok (compared c.args.shapes cell))) c.read_macro.result c.in_err-cell.field-0.0 c.from_residual.result
    (only_refl (g.D.Desk.view c.read_macro.new.desk))
    c.read_macro.ensures.comes
    c.in_err-cell.was
    c.from_residual.ensures

pub returns-clause-comes : goal.returns-clause-comes
returns-clause-comes g c =
    taken (g.D.Desk.view c.args.desk.now) (g.D.Desk.view c.read_macro.new.desk) (g.D.Desk.view c.read_macro.new.desk)
    (macro_from c.args.lef.now c.args.name.now c.args.tech.now) (λ (cell : Macro). Ends (Ok (compared c.args.shapes cell))) c.read_macro.result c.in_ok-cell.cell (Ok _)
    c.read_macro.ensures.only
    (only_refl (g.D.Desk.view c.read_macro.new.desk))
    c.read_macro.ensures.comes
    c.in_ok-cell.was
    (inl refl)
