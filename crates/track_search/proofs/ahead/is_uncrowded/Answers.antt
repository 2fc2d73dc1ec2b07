use Rattle.std.proofs.Common.{◌≡◌, subst, sym, ◌∙◌}
use Rattle.row_state.specs.declared.state.State.{State}
use Rattle.track_ways.specs.States.{is_still_ahead}
use Rattle.track_ways.specs.Tables.{marked}
use Rattle.track_ways.proofs.Crowded.{none_through}
use Rattle.track_search.proofs.ahead.is_uncrowded.Goals as goal

pub step_uncrowded-requires-clause-after : goal.step_uncrowded-requires-clause-after
step_uncrowded-requires-clause-after g c = subst (λ (z : State). marked c.nets_after-nets.result ≡ is_still_ahead c.args.task.now.kinds.now z) c.requires.after c.nets_after-nets.ensures

pub returns-clause-crowded : goal.returns-clause-crowded
returns-clause-crowded g c = λ e tracks. none_through g.met.R.TrackRule.is_rule c.args.task.now.pins.now c.args.task.now.limit c.args.task.now.kinds.now c.args.state.now c.args.step.now tracks c.show_limits.ensures c.requires.state (sym c.in_ok-free.ensures.is ∙ e)
