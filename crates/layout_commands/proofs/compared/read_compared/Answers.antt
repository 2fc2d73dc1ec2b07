use Rattle.std.proofs.Common.{ℕ, List, subst, ◌∙◌}
use Rattle.std.specs.Prelude.{option_map}
use Rattle.call_read.specs.InputFiles.{technology_from}
use Rattle.call_read.specs.Reading.{MayCome}
use Rattle.call_read.proofs.Desks.{only_refl, refused, short, taken}
use Rattle.layout_commands.specs.Agree.{comparing, comparing_over}
use Rattle.layout_commands.proofs.compared.read_compared.Goals as goal

pub returns-in_err-name-clause-comes : goal.returns-in_err-name-clause-comes
returns-in_err-name-clause-comes g c =
    short (g.D.Desk.view c.args.desk.now) (g.D.Desk.view c.args.desk.now) (comparing (option_map (λ name. name.now) c.args.tech) c.args.gds.now c.args.lef.now c.args.cell.now) c.from_residual.result c.from_residual.ensures

pub returns-in_err-tech-clause-comes : goal.returns-in_err-tech-clause-comes
returns-in_err-tech-clause-comes g c =
    refused (g.D.Desk.view c.args.desk.now) (g.D.Desk.view c.read_technology.new.desk) (g.D.Desk.view c.read_technology.new.desk)
    (technology_from (option_map (λ name. name.now) c.args.tech)) (comparing_over c.args.gds.now c.args.lef.now c.args.cell.now) c.read_technology.result c.in_err-tech.field-0.0 c.from_residual-in_err-tech.result
    (only_refl (g.D.Desk.view c.read_technology.new.desk))
    c.read_technology.ensures.comes
    c.in_err-tech.was
    c.from_residual-in_err-tech.ensures

pub returns-clause-comes : goal.returns-clause-comes
returns-clause-comes g c =
    taken (g.D.Desk.view c.args.desk.now) (g.D.Desk.view c.read_technology.new.desk) (g.D.Desk.view c.read_over.new.desk)
    (technology_from (option_map (λ name. name.now) c.args.tech)) (comparing_over c.args.gds.now c.args.lef.now c.args.cell.now) c.read_technology.result c.in_ok-tech.tech c.read_over.result
    c.read_technology.ensures.only
    c.read_over.ensures.only
    c.read_technology.ensures.comes
    c.in_ok-tech.was
    (subst (λ (n : List ℕ). MayCome (g.D.Desk.view c.read_technology.new.desk) (g.D.Desk.view c.read_over.new.desk) (comparing_over c.args.gds.now c.args.lef.now n c.in_ok-tech.tech) c.read_over.result) (c.in_ok-name.ensures ∙ c.as_bytes.ensures.value) c.read_over.ensures.comes)
