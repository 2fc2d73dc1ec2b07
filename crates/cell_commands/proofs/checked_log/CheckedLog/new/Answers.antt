use Rattle.std.proofs.Common.{subst}
use Rattle.cell_inputs.specs.Inputs.{Inputs, inputs_of}
use Rattle.cell_commands.specs.LogRead.{AreBegun}
use Rattle.cell_commands.proofs.LogReads.{begun_for}
use Rattle.cell_commands.proofs.checked_log.CheckedLog.new.Goals as goal

pub returns : goal.returns
returns c =
    subst (λ (inputs : Inputs). AreBegun inputs c.in_ok-reader.reader c.in_ok-checker.checker) c.inputs.view_is
    (begun_for (inputs_of c.inputs.inside.tech c.inputs.inside.cell c.inputs.inside.fingers) c.in_ok-kinds.kinds c.in_ok-reader.reader c.in_ok-checker.checker
    c.in_ok-kinds.ensures.kinds
    c.in_ok-kinds.ensures.sound
    c.in_ok-reader.ensures
    c.in_ok-checker.ensures.seen
    c.in_ok-checker.ensures.fingers
    c.in_ok-checker.ensures.count)
