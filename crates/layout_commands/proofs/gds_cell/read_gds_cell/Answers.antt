use Rattle.std.specs.Prelude.{option_map}
use Rattle.call_read.specs.InputFiles.{technology_from}
use Rattle.call_read.proofs.Desks.{only_refl, refused, taken}
use Rattle.layout_commands.specs.Extract.{extracting_over}
use Rattle.layout_commands.proofs.gds_cell.read_gds_cell.Goals as goal

pub returns-in_err-tech-clause-comes : goal.returns-in_err-tech-clause-comes
returns-in_err-tech-clause-comes g c =
    refused (g.D.Desk.view c.args.desk.now) (g.D.Desk.view c.read_technology.new.desk) (g.D.Desk.view c.read_technology.new.desk)
    (technology_from (option_map (λ name. name.now) c.args.tech)) (extracting_over c.args.gds.now c.args.cell.now c.args.rules) c.read_technology.result c.in_err-tech.field-0.0 c.from_residual.result
    (only_refl (g.D.Desk.view c.read_technology.new.desk))
    c.read_technology.ensures.comes
    c.in_err-tech.was
    c.from_residual.ensures

pub returns-clause-comes : goal.returns-clause-comes
returns-clause-comes g c =
    taken (g.D.Desk.view c.args.desk.now) (g.D.Desk.view c.read_technology.new.desk) (g.D.Desk.view c.read_cell_over.new.desk)
    (technology_from (option_map (λ name. name.now) c.args.tech)) (extracting_over c.args.gds.now c.args.cell.now c.args.rules) c.read_technology.result c.in_ok-tech.tech c.read_cell_over.result
    c.read_technology.ensures.only
    c.read_cell_over.ensures.only
    c.read_technology.ensures.comes
    c.in_ok-tech.was
    c.read_cell_over.ensures.comes
