use Rattle.std.proofs.Common.{◌∙◌, ap}
use Rattle.call_end.specs.declared.status.Status.TheVariants as status
use Rattle.call_end.specs.End.{says}
use Rattle.call_words.specs.Words.{asked}
use Rattle.cell_run.proofs.Ends.{short_end, short_reads}
use Rattle.cell_run.proofs.prepare.prepare.Goals as goal

pub returns-in-Err-clause-ends : goal.returns-in-Err-clause-ends
returns-in-Err-clause-ends g c =
    short_end (g.D.Desk.view c.args.desk.now) (g.D.Desk.view c.end_of.new.desk) (asked c.args.words.now) c.says.result (c.says.ensures ∙ ap (says status.NoMemory) c.new.ensures)

pub returns-in-Err-clause-quiet : goal.returns-in-Err-clause-quiet
returns-in-Err-clause-quiet g c =
    short_reads (g.D.Desk.view c.args.desk.now) (g.D.Desk.view c.end_of.new.desk) c.says.result (c.says.ensures ∙ ap (says status.NoMemory) c.new.ensures)

pub returns-in-Ok-clause-ends : goal.returns-in-Ok-clause-ends
returns-in-Ok-clause-ends g c = c.in-Ok.ensures.ends

pub returns-in-Ok-clause-quiet : goal.returns-in-Ok-clause-quiet
returns-in-Ok-clause-quiet g c = c.in-Ok.ensures.quiet

pub returns-in-Ok-clause-only : goal.returns-in-Ok-clause-only
returns-in-Ok-clause-only g c = c.end_of.ensures.only

pub returns-in-Err-clause-only : goal.returns-in-Err-clause-only
returns-in-Err-clause-only g c = c.end_of.ensures.only
