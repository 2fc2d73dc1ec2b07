use Rattle.std.proofs.Common.{◌≢◌, rules}
use Rattle.track_check.specs.declared.rejected.TextRejected.TheVariants as because
use Rattle.cell_inputs.specs.Inputs.{inputs_of}
use Rattle.cell_commands.proofs.LowChecked.{accepted_checks, rejected_checks}
use Rattle.cell_commands.proofs.low_check.check_low.Goals as goal

pub returns-in-Ok : goal.returns-in-Ok
returns-in-Ok c =
    accepted_checks (inputs_of c.inputs.inside.tech c.inputs.inside.cell c.inputs.inside.fingers) c.args.inputs.now c.args.bytes.now c.in_ok-kinds.kinds c.in-Ok.low c.accepted_end.result
    c.inputs.view_is c.in_ok-kinds.ensures.kinds c.in_ok-kinds.ensures.sound c.in-Ok.ensures.accepted (c.in-Ok.ensures.straight, c.in-Ok.ensures.turning) c.accepted_end.ensures

pub returns : goal.returns
returns c =
    let other : c.in-Err.cause ≢ because.NoMemory = search rules in
    rejected_checks (inputs_of c.inputs.inside.tech c.inputs.inside.cell c.inputs.inside.fingers) c.args.inputs.now c.args.bytes.now c.in_ok-kinds.kinds c.in-Err.cause c.rejected_end.result
    c.inputs.view_is c.in_ok-kinds.ensures.kinds c.in_ok-kinds.ensures.sound other c.in-Err.ensures.rejected c.in-Err.ensures.none c.rejected_end.ensures
