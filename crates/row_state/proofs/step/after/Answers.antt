use Rattle.std.proofs.Common.{subst}
use Rattle.row_state.specs.Completion.{Completes}
use Rattle.row_state.specs.declared.state.State.{State}
use Rattle.row_state.proofs.Calls.{completes_after}
use Rattle.row_state.proofs.step.after.Goals as goal

pub returns-clause-completes : goal.returns-clause-completes
returns-clause-completes c rest h =
    completes_after c.args.kinds.now c.args.state.now c.args.step.now c.show_limits.ensures c.requires.step rest
    (subst (λ (s : State). Completes c.args.kinds.now s rest) c.in_ok-next.ensures h)
