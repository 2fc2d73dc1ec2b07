use Rattle.std.proofs.Common.{Some}
use Rattle.call_words.specs.Words.{MakeFrom}
use Rattle.call_work.specs.Commands.{gathered, making_from}
use Rattle.call_work.proofs.Keeping.{keeps_handed, keeps_short, kept_making}
use Rattle.call_work.proofs.commands.cell.for_make_from.Goals as goal

pub returns-in_err-stem-clause-comes : goal.returns-in_err-stem-clause-comes
returns-in_err-stem-clause-comes g c =
    keeps_short (g.D.Desk.view c.args.desk.now) (g.D.Desk.view c.args.desk.now) (gathered (Some (MakeFrom c.args.asked.now c.args.out.now c.args.style c.args.file.now c.args.evidence))) c.from_residual.result c.from_residual.ensures

pub returns-in_err-read-clause-comes : goal.returns-in_err-read-clause-comes
returns-in_err-read-clause-comes g c =
    keeps_handed (g.D.Desk.view c.args.desk.now) (g.D.Desk.view c.read_with_evidence.new.desk) (gathered (Some (MakeFrom c.args.asked.now c.args.out.now c.args.style c.args.file.now c.args.evidence))) c.in_err-read.field-0.0 c.from_residual-in_err-read.result
    c.from_residual-in_err-read.ensures
    (c.in_err-read.ensures.comes (making_from c.args.evidence c.args.out.now c.args.style))

pub returns-clause-comes : goal.returns-clause-comes
returns-clause-comes g c =
    c.in_ok-read.ensures.comes (making_from c.args.evidence c.args.out.now c.args.style) _
    (kept_making c.args.evidence c.args.out.now c.in_ok-stem.stem c.args.style c.in_ok-read.read.inputs c.in_ok-read.read.file c.in_ok-stem.ensures)
