use Rattle.std.proofs.Common.{rules, ◌≡◌, sym, ◌∙◌}
use Rattle.track_ways.specs.Crowds.{end_uncrowded}
use Rattle.track_ways.specs.StraightLaw.{straight_rule}
use Rattle.track_ways.specs.Tables.{marked}
use Rattle.track_ways.proofs.Crowded.{end_is, none_at_end}
use Rattle.track_ways.proofs.Nets.{end_entries}
use Rattle.track_ways.proofs.crowds.end_uncrowded.Goals as goal

pub none_crowded-free-requires : goal.none_crowded-free-requires
none_crowded-free-requires c = end_entries c.args.kinds.now c.args.state.now c.deref.result.now c.show_limits.ensures c.requires.state (c.deref.ensures.value ∙ c.in_ok-lines.ensures)

pub returns-clause-is : goal.returns-clause-is
returns-clause-is c = end_is c.args.pins.now c.args.limit c.args.kinds.now c.args.state.now (marked c.args.before.now) (marked c.no_nets-none.result) c.deref.result.now c.none_crowded-free.result (c.deref.ensures.value ∙ c.in_ok-lines.ensures) c.requires.before c.no_nets-none.ensures (search rules)

pub returns-clause-crowded : goal.returns-clause-crowded
returns-clause-crowded c =
    let is : c.none_crowded-free.result ≡ end_uncrowded c.args.pins.now c.args.limit c.args.kinds.now c.args.state.now = end_is c.args.pins.now c.args.limit c.args.kinds.now c.args.state.now (marked c.args.before.now) (marked c.no_nets-none.result) c.deref.result.now c.none_crowded-free.result (c.deref.ensures.value ∙ c.in_ok-lines.ensures) c.requires.before c.no_nets-none.ensures (search rules) in
    λ crowded tracks. none_at_end straight_rule c.args.pins.now c.args.limit c.args.kinds.now c.args.state.now tracks c.show_limits.ensures c.requires.state (sym is ∙ crowded)
