use Rattle.std.proofs.Common.{rules, ◌≡◌, ap, sym, ◌∙◌}
use Rattle.track_ways.specs.Crowds.{step_uncrowded}
use Rattle.track_ways.specs.Paths.{lines_to}
use Rattle.track_ways.specs.StraightLaw.{straight_rule}
use Rattle.track_ways.specs.Tables.{marked}
use Rattle.track_ways.proofs.Crowded.{none_through, step_is}
use Rattle.track_ways.proofs.Nets.{entries}
use Rattle.track_ways.proofs.crowds.step_uncrowded.Goals as goal

pub none_crowded-free-requires : goal.none_crowded-free-requires
none_crowded-free-requires c = entries c.args.kinds.now c.args.state.now c.args.step.now c.deref.result.now c.show_limits.ensures c.requires.state (c.deref.ensures.value ∙ c.in_ok-lines.ensures ∙ ap (lines_to c.args.state.now) c.column.ensures)

pub returns-clause-is : goal.returns-clause-is
returns-clause-is c = step_is c.args.pins.now c.args.limit c.args.kinds.now c.args.state.now c.args.step.now (marked c.args.before.now) (marked c.args.after.now) c.deref.result.now c.none_crowded-free.result (c.deref.ensures.value ∙ c.in_ok-lines.ensures ∙ ap (lines_to c.args.state.now) c.column.ensures) c.requires.before c.requires.after (search rules)

pub returns-clause-crowded : goal.returns-clause-crowded
returns-clause-crowded c =
    let is : c.none_crowded-free.result ≡ step_uncrowded c.args.pins.now c.args.limit c.args.kinds.now c.args.state.now c.args.step.now = step_is c.args.pins.now c.args.limit c.args.kinds.now c.args.state.now c.args.step.now (marked c.args.before.now) (marked c.args.after.now) c.deref.result.now c.none_crowded-free.result (c.deref.ensures.value ∙ c.in_ok-lines.ensures ∙ ap (lines_to c.args.state.now) c.column.ensures) c.requires.before c.requires.after (search rules) in
    λ crowded tracks. none_through straight_rule c.args.pins.now c.args.limit c.args.kinds.now c.args.state.now c.args.step.now tracks c.show_limits.ensures c.requires.state (sym is ∙ crowded)
