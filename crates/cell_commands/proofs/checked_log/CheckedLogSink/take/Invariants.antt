use Rattle.std.proofs.Common.{◌≤◌, ◌-◌, length, take}
use Rattle.cell_commands.specs.LogRead.{AreBehind}
use Rattle.cell_commands.proofs.checked_log.CheckedLogSink.take.Given as goal

abbrev pub invariant-lines : goal.invariant-lines
invariant-lines l =
    (l.at ≤ length l.part)
    × AreBehind l.fn.self.reader l.fn.self.checker (take l.at l.part) l.self.reader l.self.checker

abbrev pub decreases-lines : goal.decreases-lines
decreases-lines l = length l.part - l.at
