use Rattle.std.proofs.Common.{◌≤◌, ◌-◌, length, drop, take, arith, length-drop}
use Rattle.std.proofs.lemmas.List.{length-take-le}
use Rattle.cell_commands.specs.LogRead.{behind_none}
use Rattle.cell_commands.proofs.LogLines.{behind_rest, behind_whole, room_rest}
use Rattle.cell_commands.proofs.checked_log.CheckedLogSink.take.Goals as goal

pub take_line-requires-clause-room : goal.take_line-requires-clause-room
take_line-requires-clause-room c = room_rest c.args.self.now.reader c.lines.self.reader c.args.self.now.checker c.lines.self.checker c.args.part.now c.lines.at c.lines.invariant.0 c.lines.invariant.1 c.requires

pub lines-init : goal.lines-init
lines-init c = (omega arith, behind_none c.args.self.now.reader c.args.self.now.checker)

pub lines-preserved : goal.lines-preserved
lines-preserved c =
    let within : c.in_ok-used.used ≤ length (take (length c.args.part.now - c.lines.at) (drop c.lines.at c.args.part.now)) = c.in_ok-used.ensures.within.1 in (
      omega (arith, within, length-drop c.lines.at c.args.part.now, length-take-le (length c.args.part.now - c.lines.at) (drop c.lines.at c.args.part.now)),
      behind_rest c.args.self.now.reader c.lines.self.reader c.take_line.new.self.reader c.args.self.now.checker c.lines.self.checker c.take_line.new.self.checker c.args.part.now c.lines.at c.in_ok-used.used c.lines.invariant.1 c.in_ok-used.ensures.behind,
    )

pub returns : goal.returns
returns c = behind_whole c.args.self.now.reader c.lines.self.reader c.args.self.now.checker c.lines.self.checker c.args.part.now c.lines.at c.lines-test.false c.lines.invariant.1
