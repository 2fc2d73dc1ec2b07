use Rattle.std.proofs.Common.{IfOk, subst}
use Rattle.cell_inputs.specs.Inputs.{Inputs, inputs_of}
use Rattle.cell_commands.specs.TrailCheck.{Checks}
use Rattle.cell_commands.proofs.TrailChecked.{AreTextOf, judged_checks, misread_checks}
use Rattle.cell_commands.proofs.trail_checking.answer_trails.Goals as goal

pub returns-in-Ok : goal.returns-in-Ok
returns-in-Ok c =
    judged_checks c.args.inputs.now c.args.bytes.now c.in_ok-kinds.kinds c.in-Ok.trails c.judge.result
    (subst (λ (inputs : Inputs). AreTextOf inputs c.args.bytes.now c.in_ok-kinds.kinds c.in-Ok.trails) c.inputs.view_is
    (record { kinds = c.in_ok-kinds.ensures.kinds; some_kinds = c.in_ok-kinds.ensures.sound; read = c.in-Ok.ensures.evidence; fits = c.in-Ok.ensures.fits; text = c.in-Ok.ensures.text; one = c.in-Ok.ensures.one }))
    c.judge.ensures

pub returns : goal.returns
returns c =
    subst (λ (inputs : Inputs). IfOk c.misread.result (Checks inputs c.args.bytes.now)) c.inputs.view_is
    (misread_checks (inputs_of c.inputs.inside.tech c.inputs.inside.cell c.inputs.inside.fingers) c.args.bytes.now c.in_ok-kinds.kinds c.in-Err.fault c.misread.result
    c.in_ok-kinds.ensures.kinds
    c.in_ok-kinds.ensures.sound
    c.in-Err.ensures.fault
    c.in-Err.ensures.none
    c.misread.ensures)
