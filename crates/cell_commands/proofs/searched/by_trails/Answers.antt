use Rattle.std.proofs.Common.{ℕ, subst}
use Rattle.cell_num.specs.declared.finger.Fingers.{Fingers}
use Rattle.cell_inputs.specs.Inputs.{Inputs, inputs_of}
use Rattle.trail_either.specs.Ended.{IsEitherCrowded, IsEitherFound, IsEitherOpen, Stops}
use Rattle.trail_either.specs.declared.found.EitherStop.{EitherStop}
use Rattle.cell_commands.proofs.Ended.{of_inputs}
use Rattle.cell_commands.proofs.searched.by_trails.Goals as goal

pub returns-in-Ok : goal.returns-in-Ok
returns-in-Ok c =
    let inside : Inputs = inputs_of c.inputs.inside.tech c.inputs.inside.cell c.inputs.inside.fingers in
    of_inputs (λ (f : Fingers) (b : ℕ). IsEitherFound f b c.in-Ok.found.row c.in-Ok.found.evidence) inside c.args.inputs.now c.budget.result c.inputs.view_is c.budget.ensures.is c.in-Ok.ensures.found

pub returns-in-Err-Unfinished : goal.returns-in-Err-Unfinished
returns-in-Err-Unfinished c =
    let inside : Inputs = inputs_of c.inputs.inside.tech c.inputs.inside.cell c.inputs.inside.fingers in
    let spent : IsEitherOpen c.inputs.inside.fingers c.budget.result c.in-Err-Unfinished.evidence c.in-Err-Unfinished.proved =
    subst (λ (s : EitherStop). Stops c.inputs.inside.fingers c.budget.result s) c.in-Err-Unfinished.field-0-is c.in-Err-Unfinished.ensures.stopped in
    of_inputs (λ (f : Fingers) (b : ℕ). IsEitherOpen f b c.in-Err-Unfinished.evidence c.in-Err-Unfinished.proved) inside c.args.inputs.now c.budget.result c.inputs.view_is c.budget.ensures.is spent

pub returns-in-Err-Choices : goal.returns-in-Err-Choices
returns-in-Err-Choices c =
    let inside : Inputs = inputs_of c.inputs.inside.tech c.inputs.inside.cell c.inputs.inside.fingers in
    let crowded : IsEitherCrowded c.inputs.inside.fingers c.budget.result c.in-Err-Choices.gate =
    subst (λ (s : EitherStop). Stops c.inputs.inside.fingers c.budget.result s) c.in-Err-Choices.field-0-is c.in-Err-Choices.ensures.stopped in
    of_inputs (λ (f : Fingers) (b : ℕ). IsEitherCrowded f b c.in-Err-Choices.gate) inside c.args.inputs.now c.budget.result c.inputs.view_is c.budget.ensures.is crowded
