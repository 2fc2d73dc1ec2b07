use Rattle.call_work.specs.Commands.{checking, gathered}
use Rattle.call_work.specs.declared.commands.Material.TheVariants.{Read}
use Rattle.call_work.specs.declared.commands.ReadMaterial.TheVariants as held
use Rattle.call_words.specs.Words.{Check}
use Rattle.std.proofs.Common.{Some}
use Rattle.call_work.proofs.Keeping.{keeps_handed, kept_checking}
use Rattle.call_work.proofs.commands.cell.for_check.Goals as goal

pub returns-in_err-read-clause-comes : goal.returns-in_err-read-clause-comes
returns-in_err-read-clause-comes g c =
    keeps_handed (g.D.Desk.view c.args.desk.now) (g.D.Desk.view c.read_with_evidence.new.desk) (gathered (Some (Check c.args.asked.now c.args.file.now c.args.evidence))) c.in_err-read.field-0.0 c.from_residual.result
    c.from_residual.ensures
    (c.in_err-read.ensures.comes (checking c.args.evidence))

pub returns-clause-comes : goal.returns-clause-comes
returns-clause-comes g c =
    c.in_ok-read.ensures.comes (checking c.args.evidence) (Read (held.Checking c.in_ok-read.read)) (kept_checking c.args.evidence c.in_ok-read.read.inputs c.in_ok-read.read.file)
