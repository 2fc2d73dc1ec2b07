use Rattle.cell_commands.proofs.LogLines.{fault_passed, line_behind}
use Rattle.cell_commands.proofs.checked_log.CheckedLog.take_line.Goals as goal

pub returns-in_ok-item-in-Ok-clause-behind : goal.returns-in_ok-item-in-Ok-clause-behind
returns-in_ok-item-in-Ok-clause-behind c =
    line_behind c.args.self.now.reader c.take.new.self c.args.self.now.checker c.item.new.self c.args.part.now c.in-Ok.used c.in-Ok.item
    c.in-Ok.ensures.item
    c.item.ensures.fingers
    c.in_ok-item-in-Ok.ensures.count
    c.in-Ok.ensures.few
    c.in-Ok.ensures.within.0
    c.in-Ok.ensures.within.1
    c.in_ok-item-in-Ok.ensures.seen

pub returns-in-Err-clause-behind : goal.returns-in-Err-clause-behind
returns-in-Err-clause-behind c =
    fault_passed c.args.self.now.reader c.take.new.self c.args.self.now.checker c.args.part.now c.in-Err.fault c.pass_over.result
    c.in-Err.ensures.fault
    c.in-Err.ensures.told
    c.pass_over.ensures
