use Rattle.std.proofs.Common.{subst, sym}
use Rattle.row_state.specs.Steps.{AreSuccessors, Unfolds}
use Rattle.row_state.proofs.Calls.{next_succeed, next_unfold}
use Rattle.row_state.proofs.listing.successors.Goals as goal

pub returns-clause-steps : goal.returns-clause-steps
returns-clause-steps c = subst (AreSuccessors c.args.kinds.now c.args.state.now) (sym c.in_ok-steps.ensures) (next_succeed c.args.kinds.now c.args.state.now c.show_limits.ensures)

pub returns-clause-unfolds : goal.returns-clause-unfolds
returns-clause-unfolds c = subst (Unfolds c.args.kinds.now c.args.state.now) (sym c.in_ok-steps.ensures) (next_unfold c.args.kinds.now c.args.state.now c.show_limits.ensures)
