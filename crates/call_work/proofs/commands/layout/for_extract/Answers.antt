use Rattle.std.proofs.Common.{Ok, inl, refl}
use Rattle.std.specs.Prelude.{option_map}
use Rattle.call_read.proofs.Desks.{only_refl}
use Rattle.call_read.specs.Reading.{Ends}
use Rattle.call_work.proofs.Keeping.{keeps_behind, keeps_refusal}
use Rattle.call_work.specs.Commands.{Extracting}
use Rattle.layout_commands.specs.Extract.{extracting}
use Rattle.layout_commands.specs.declared.gds_cell.GdsCell.{GdsCell}
use Rattle.call_work.proofs.commands.layout.for_extract.Goals as goal

pub returns-in_err-drawn-clause-comes : goal.returns-in_err-drawn-clause-comes
returns-in_err-drawn-clause-comes g c =
    keeps_refusal (g.D.Desk.view c.args.desk.now) (g.D.Desk.view c.read_gds_cell.new.desk) (g.D.Desk.view c.read_gds_cell.new.desk)
    (extracting (option_map (λ name. name.now) c.args.tech) c.args.gds.now c.args.cell.now c.args.rules) (λ (drawn : GdsCell). Ends (Ok (Extracting, drawn))) c.read_gds_cell.result c.in_err-drawn.field-0.0 c.from_residual.result
    (only_refl (g.D.Desk.view c.read_gds_cell.new.desk))
    c.read_gds_cell.ensures.comes
    c.in_err-drawn.was
    c.from_residual.ensures

pub returns-clause-comes : goal.returns-clause-comes
returns-clause-comes g c =
    keeps_behind (g.D.Desk.view c.args.desk.now) (g.D.Desk.view c.read_gds_cell.new.desk) (g.D.Desk.view c.read_gds_cell.new.desk)
    (extracting (option_map (λ name. name.now) c.args.tech) c.args.gds.now c.args.cell.now c.args.rules) (λ (drawn : GdsCell). Ends (Ok (Extracting, drawn))) c.read_gds_cell.result c.in_ok-drawn.drawn (Ok _)
    c.read_gds_cell.ensures.only
    (only_refl (g.D.Desk.view c.read_gds_cell.new.desk))
    c.read_gds_cell.ensures.comes
    c.in_ok-drawn.was
    (Ok (Extracting, c.in_ok-drawn.drawn), inl refl, refl)
