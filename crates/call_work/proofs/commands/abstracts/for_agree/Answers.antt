use Rattle.std.proofs.Common.{Ok, inl, refl}
use Rattle.std.specs.Prelude.{option_map}
use Rattle.layout_commands.specs.Agree.{comparing}
use Rattle.layout_commands.specs.declared.compared.Compared.{Compared}
use Rattle.call_read.proofs.Desks.{only_refl}
use Rattle.call_read.specs.Reading.{Ends}
use Rattle.call_work.proofs.Keeping.{keeps_behind, keeps_refusal}
use Rattle.call_work.specs.Commands.{Agreeing}
use Rattle.call_work.proofs.commands.abstracts.for_agree.Goals as goal

pub returns-in_err-both-clause-comes : goal.returns-in_err-both-clause-comes
returns-in_err-both-clause-comes g c =
    keeps_refusal (g.D.Desk.view c.args.desk.now) (g.D.Desk.view c.read_compared.new.desk) (g.D.Desk.view c.read_compared.new.desk)
    (comparing (option_map (λ name. name.now) c.args.tech) c.args.gds.now c.args.lef.now c.args.cell.now) (λ (both : Compared). Ends (Ok (Agreeing, both))) c.read_compared.result c.in_err-both.field-0.0 c.from_residual.result
    (only_refl (g.D.Desk.view c.read_compared.new.desk))
    c.read_compared.ensures.comes
    c.in_err-both.was
    c.from_residual.ensures

pub returns-clause-comes : goal.returns-clause-comes
returns-clause-comes g c =
    keeps_behind (g.D.Desk.view c.args.desk.now) (g.D.Desk.view c.read_compared.new.desk) (g.D.Desk.view c.read_compared.new.desk)
    (comparing (option_map (λ name. name.now) c.args.tech) c.args.gds.now c.args.lef.now c.args.cell.now) (λ (both : Compared). Ends (Ok (Agreeing, both))) c.read_compared.result c.in_ok-both.both (Ok _)
    c.read_compared.ensures.only
    (only_refl (g.D.Desk.view c.read_compared.new.desk))
    c.read_compared.ensures.comes
    c.in_ok-both.was
    (Ok (Agreeing, c.in_ok-both.both), inl refl, refl)
