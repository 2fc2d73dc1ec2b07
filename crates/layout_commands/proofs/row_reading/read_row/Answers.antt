use Rattle.std.proofs.Common.{ℕ, List, Option, ap, subst}
use Rattle.call_read.proofs.Desks.{only_refl, refused, taken}
use Rattle.call_read.specs.InputFiles.{technology_from}
use Rattle.call_read.specs.Reading.{MayCome}
use Rattle.call_words.specs.Asked.{RowAsked}
use Rattle.layout_commands.specs.Row.{rowing_over}
use Rattle.layout_commands.proofs.row_reading.read_row.Goals as goal

pub returns-in_err-tech-clause-comes : goal.returns-in_err-tech-clause-comes
returns-in_err-tech-clause-comes g c =
    refused (g.D.Desk.view c.args.desk.now) (g.D.Desk.view c.read_technology.new.desk) (g.D.Desk.view c.read_technology.new.desk)
    (technology_from c.args.asked.now.tech) (rowing_over c.args.asked.now) c.read_technology.result c.in_err-tech.field-0.0 c.from_residual.result
    (only_refl (g.D.Desk.view c.read_technology.new.desk))
    (subst (λ (file : Option (List ℕ)). MayCome (g.D.Desk.view c.args.desk.now) (g.D.Desk.view c.read_technology.new.desk) (technology_from file) c.read_technology.result) (ap (λ (x : RowAsked). x.tech) c.asked.view_is) c.read_technology.ensures.comes)
    c.in_err-tech.was
    c.from_residual.ensures

pub returns-clause-comes : goal.returns-clause-comes
returns-clause-comes g c =
    taken (g.D.Desk.view c.args.desk.now) (g.D.Desk.view c.read_technology.new.desk) (g.D.Desk.view c.read_over.new.desk)
    (technology_from c.args.asked.now.tech) (rowing_over c.args.asked.now) c.read_technology.result c.in_ok-tech.tech c.read_over.result
    c.read_technology.ensures.only
    c.read_over.ensures.only
    (subst (λ (file : Option (List ℕ)). MayCome (g.D.Desk.view c.args.desk.now) (g.D.Desk.view c.read_technology.new.desk) (technology_from file) c.read_technology.result) (ap (λ (x : RowAsked). x.tech) c.asked.view_is) c.read_technology.ensures.comes)
    c.in_ok-tech.was
    c.read_over.ensures.comes
