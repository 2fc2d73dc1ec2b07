use Rattle.std.proofs.Common.{◌≡◌, subst}
use Rattle.row_state.specs.Start.{AreKinds}
use Rattle.cell_inputs.specs.Inputs.{Inputs, inputs_of}
use Rattle.cell_commands.proofs.LogReads.{accepted_all, rejected_all}
use Rattle.cell_commands.proofs.verdict.judge.Goals as goal

pub returns-in_ok-row-in-Ok : goal.returns-in_ok-row-in-Ok
returns-in_ok-row-in-Ok c =
    let is : (inputs_of c.inputs.inside.tech c.inputs.inside.cell c.inputs.inside.fingers) ≡ c.args.inputs.now = c.inputs.view_is in
    accepted_all c.args.inputs.now c.args.log.now.reader c.args.log.now.checker c.in_ok-kinds-in-Ok.kinds c.in_ok-row-in-Ok.row c.in-Ok.gaps c.count.result
    c.show_limits.ensures
    c.requires
    (subst (λ (i : Inputs). AreKinds i.fingers c.in_ok-kinds-in-Ok.kinds) is c.in_ok-kinds-in-Ok.ensures.kinds)
    c.in_ok-kinds-in-Ok.ensures.sound
    c.in_ok-row-in-Ok.ensures
    c.in-Ok.ensures.accepted
    c.in-Ok.ensures.least
    c.count.ensures

pub returns-in-Err : goal.returns-in-Err
returns-in-Err c =
    rejected_all c.args.inputs.now c.args.log.now.reader c.args.log.now.checker c.in-Err.cause c.rejected.result
    c.show_limits.ensures
    c.requires
    c.in-Err.ensures.refused
    c.rejected.ensures
