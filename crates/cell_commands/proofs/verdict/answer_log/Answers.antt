use Rattle.std.proofs.Common.{◌∙◌, sym}
use Rattle.cell_commands.proofs.LogReads.{misread_all}
use Rattle.cell_commands.proofs.verdict.answer_log.Goals as goal

pub returns-in-Err : goal.returns-in-Err
returns-in-Err c =
    misread_all c.args.inputs.now c.args.log.now.reader c.args.log.now.checker c.in-Err.fault c.misread.result
    c.show_limits.ensures
    (sym c.finish.ensures ∙ c.in-Err.is)
    c.misread.ensures
