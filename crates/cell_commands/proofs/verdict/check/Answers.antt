use Rattle.cell_commands.proofs.LogReads.{ends_all}
use Rattle.cell_commands.proofs.verdict.check.Goals as goal

pub returns : goal.returns
returns c =
    ends_all c.args.inputs.now c.args.log.now.reader c.args.log.now.checker c.in_ok-answer.answer c.log_end.result
    c.in_ok-answer.ensures
    c.log_end.ensures
