use Rattle.std.proofs.Common.{◌≡◌, Option, Ok, subst}
use Rattle.call_work.specs.Commands.{gathered}
use Rattle.call_work.specs.Kept.{MayKeep}
use Rattle.call_work.specs.declared.commands.Material.{Material}
use Rattle.call_work.specs.declared.commands.Material.TheVariants.{Bench, Read}
use Rattle.call_words.specs.Words.{Form, asked}
use Rattle.call_work.proofs.EachCommand.{bench_works}
use Rattle.call_work.proofs.Works.{ends_refused, ends_work, reads_refused, reads_worked}
use Rattle.cell_run.proofs.prepare.end_of.Goals as goal

pub returns-in-Ok-Bench-clause-ends : goal.returns-in-Ok-Bench-clause-ends
returns-in-Ok-Bench-clause-ends g c =
    ends_work (g.D.Desk.view c.args.desk.now) (g.D.Desk.view c.gather.new.desk) (asked c.args.words.now) c.gather.result (Bench c.in-Ok-Bench.number) c.bench_end.result
    (subst (λ (form : Option Form). MayKeep (g.D.Desk.view c.args.desk.now) (g.D.Desk.view c.gather.new.desk) (gathered form) c.gather.result) c.form_of.ensures c.gather.ensures.comes)
    (subst (λ (m : Material). c.gather.result ≡ Ok m) c.in-Ok-Bench.field-0-is c.in-Ok-Bench.is)
    (bench_works c.in-Ok-Bench.number c.bench_end.result c.bench_end.ensures)

pub returns-in-Ok-Read-clause-ends : goal.returns-in-Ok-Read-clause-ends
returns-in-Ok-Read-clause-ends g c =
    ends_work (g.D.Desk.view c.args.desk.now) (g.D.Desk.view c.gather.new.desk) (asked c.args.words.now) c.gather.result (Read c.in-Ok-Read.material) c.work-end.result
    (subst (λ (form : Option Form). MayKeep (g.D.Desk.view c.args.desk.now) (g.D.Desk.view c.gather.new.desk) (gathered form) c.gather.result) c.form_of.ensures c.gather.ensures.comes)
    (subst (λ (m : Material). c.gather.result ≡ Ok m) c.in-Ok-Read.field-0-is c.in-Ok-Read.is)
    c.work-end.ensures

pub returns-in-Err-clause-ends : goal.returns-in-Err-clause-ends
returns-in-Err-clause-ends g c =
    ends_refused (g.D.Desk.view c.args.desk.now) (g.D.Desk.view c.gather.new.desk) (asked c.args.words.now) c.gather.result c.in-Err.refusal c.refused.result
    (subst (λ (form : Option Form). MayKeep (g.D.Desk.view c.args.desk.now) (g.D.Desk.view c.gather.new.desk) (gathered form) c.gather.result) c.form_of.ensures c.gather.ensures.comes)
    c.in-Err.is
    c.refused.ensures

pub returns-in-Ok-Bench-clause-quiet : goal.returns-in-Ok-Bench-clause-quiet
returns-in-Ok-Bench-clause-quiet g c =
    reads_worked (g.D.Desk.view c.args.desk.now) (g.D.Desk.view c.gather.new.desk) c.gather.result (Bench c.in-Ok-Bench.number) c.bench_end.result c.gather.ensures.quiet
    (subst (λ (m : Material). c.gather.result ≡ Ok m) c.in-Ok-Bench.field-0-is c.in-Ok-Bench.is)

pub returns-in-Ok-Read-clause-quiet : goal.returns-in-Ok-Read-clause-quiet
returns-in-Ok-Read-clause-quiet g c =
    reads_worked (g.D.Desk.view c.args.desk.now) (g.D.Desk.view c.gather.new.desk) c.gather.result (Read c.in-Ok-Read.material) c.work-end.result c.gather.ensures.quiet
    (subst (λ (m : Material). c.gather.result ≡ Ok m) c.in-Ok-Read.field-0-is c.in-Ok-Read.is)

pub returns-in-Err-clause-quiet : goal.returns-in-Err-clause-quiet
returns-in-Err-clause-quiet g c =
    reads_refused (g.D.Desk.view c.args.desk.now) (g.D.Desk.view c.gather.new.desk) c.gather.result c.in-Err.refusal c.refused.result c.gather.ensures.quiet c.in-Err.is c.refused.ensures

pub returns-in-Ok-Bench-clause-only : goal.returns-in-Ok-Bench-clause-only
returns-in-Ok-Bench-clause-only g c = c.gather.ensures.only

pub returns-in-Ok-Read-clause-only : goal.returns-in-Ok-Read-clause-only
returns-in-Ok-Read-clause-only g c = c.gather.ensures.only

pub returns-in-Err-clause-only : goal.returns-in-Err-clause-only
returns-in-Err-clause-only g c = c.gather.ensures.only
