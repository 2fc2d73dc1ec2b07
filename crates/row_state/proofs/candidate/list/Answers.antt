use Rattle.std.proofs.Common.{None}
use Rattle.row_state.specs.declared.step.Step.{Step}
use Rattle.row_state.proofs.Digits.{candidates_more}
use Rattle.row_state.proofs.candidate.list.Goals as goal

blank : Step
blank = record { p = None; n = None }

pub loop-step-preserved : goal.loop-step-preserved
unfolding blank
loop-step-preserved c = candidates_more c.args.kinds.now c.loop-step.all c.push.new.self c.of_step.result c.as_slice-step-items.result.now c.loop-step.step-index blank c.loop-step.invariant c.in_ok-push.ensures.ok c.of_step.ensures.candidate c.of_step.ensures.step c.loop-step-test.true
