use Rattle.std.proofs.Common.{rules, subst}
use Rattle.trail_either.specs.Accepted.{IsNeverAccepted}
use Rattle.cell_inputs.specs.Inputs.{Inputs}
use Rattle.cell_commands.proofs.trail_checking.judge.Goals as goal

pub returns-in-Err : goal.returns-in-Err
returns-in-Err c = (
  search rules,
  search rules,
  λ fault. subst (λ (inputs : Inputs). IsNeverAccepted inputs.fingers c.args.trails.now) c.inputs.view_is (c.in-Err.ensures.never fault),
)
