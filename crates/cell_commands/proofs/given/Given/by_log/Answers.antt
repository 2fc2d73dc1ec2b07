use Rattle.std.proofs.Common.{refl}
use Rattle.cell_commands.specs.declared.verdict.CheckAnswer.TheVariants.{Misread, Rejected}
use Rattle.cell_commands.proofs.GivenRows.{log_refused, logged_given}
use Rattle.cell_commands.proofs.given.Given.by_log.Goals as goal

pub returns-in-Accepted-clause-given : goal.returns-in-Accepted-clause-given
returns-in-Accepted-clause-given c = logged_given c.args.inputs.now c.args.log.now.reader c.args.log.now.checker c.in_ok-answer.answer c.in-Accepted.row _ c.in-Accepted.lemmas c.logged_row.result c.in-Accepted.is c.in_ok-answer.ensures c.logged_row.ensures.given

pub returns-in_ok-end-in-Misread-clause-given : goal.returns-in_ok-end-in-Misread-clause-given
returns-in_ok-end-in-Misread-clause-given c = log_refused c.args.inputs.now c.args.log.now.reader c.args.log.now.checker c.in_ok-answer.answer (Misread c.in-Misread.fault) c.in_ok-end-in-Misread.end c.in-Misread.is c.in_ok-answer.ensures refl c.in_ok-end-in-Misread.ensures

pub returns-in_ok-end-in-Rejected-clause-given : goal.returns-in_ok-end-in-Rejected-clause-given
returns-in_ok-end-in-Rejected-clause-given c = log_refused c.args.inputs.now c.args.log.now.reader c.args.log.now.checker c.in_ok-answer.answer (Rejected c.in-Rejected.cause) c.in_ok-end-in-Rejected.end c.in-Rejected.is c.in_ok-answer.ensures refl c.in_ok-end-in-Rejected.ensures
