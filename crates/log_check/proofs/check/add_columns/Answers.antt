use Rattle.std.proofs.Common.{subst, ◌∙◌}
use Rattle.bound_log.specs.declared.log.Log.{Log}
use Rattle.log_check.specs.Items.{HasSeen}
use Rattle.log_check.proofs.Items.{columns_again}
use Rattle.log_check.proofs.check.add_columns.Goals as goal

pub loop-step-preserved : goal.loop-step-preserved
loop-step-preserved c = (
  λ value log seen. subst (λ (l : Log). HasSeen value c.column.new.self l) (columns_again log c.args.steps.now c.loop-step.step-index _ c.loop-step-test.true)
      (c.in_ok-column.ensures.seen value _ (c.loop-step.invariant.0 value log seen)),
  c.in_ok-column.ensures.fingers ∙ c.loop-step.invariant.1,
)
