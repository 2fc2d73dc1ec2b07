use Rattle.std.proofs.Common.{rules, ◌≡◌, ap, ◌∙◌}
use Rattle.track_ways.specs.Paths.{lines_to}
use Rattle.track_ways.specs.Tables.{marked}
use Rattle.track_ways.specs.Ways.{goes_ways_by}
use Rattle.track_ways.proofs.Nets.{entries}
use Rattle.track_ways.proofs.Steps.{each_goes, each_listed}
use Rattle.track_ways.proofs.Through.{goes_is}
use Rattle.track_ways.proofs.stepping.ways_after.Goals as goal

pub ways_through-requires : goal.ways_through-requires
ways_through-requires g c = entries c.args.kinds.now c.args.state.now c.args.step.now c.deref.result.now c.show_limits.ensures c.requires.state (c.deref.ensures.value ∙ c.in_ok-lines.ensures ∙ ap (lines_to c.args.state.now) c.column.ensures)

pub returns-clause-ways : goal.returns-clause-ways
returns-clause-ways g c = goes_is g.R.TrackRule.ways c.args.pins.now c.args.limit c.args.kinds.now c.args.state.now c.args.step.now c.args.tracks.now (marked c.args.before.now) (marked c.args.behind.now) c.deref.result.now c.in_ok-ways.ways (c.deref.ensures.value ∙ c.in_ok-lines.ensures ∙ ap (lines_to c.args.state.now) c.column.ensures) c.requires.before c.requires.behind (search rules)

pub returns-clause-all : goal.returns-clause-all
returns-clause-all g c =
    let is : c.in_ok-ways.ways ≡ goes_ways_by g.R.TrackRule.ways c.args.pins.now c.args.limit c.args.kinds.now c.args.state.now c.args.tracks.now c.args.step.now = goes_is g.R.TrackRule.ways c.args.pins.now c.args.limit c.args.kinds.now c.args.state.now c.args.step.now c.args.tracks.now (marked c.args.before.now) (marked c.args.behind.now) c.deref.result.now c.in_ok-ways.ways (c.deref.ensures.value ∙ c.in_ok-lines.ensures ∙ ap (lines_to c.args.state.now) c.column.ensures) c.requires.before c.requires.behind (search rules) in
    each_listed g.met.R.TrackRule.is_rule c.args.pins.now c.args.limit c.args.kinds.now c.args.state.now c.args.step.now c.args.tracks.now c.in_ok-ways.ways is

pub returns-clause-only : goal.returns-clause-only
returns-clause-only g c =
    let is : c.in_ok-ways.ways ≡ goes_ways_by g.R.TrackRule.ways c.args.pins.now c.args.limit c.args.kinds.now c.args.state.now c.args.tracks.now c.args.step.now = goes_is g.R.TrackRule.ways c.args.pins.now c.args.limit c.args.kinds.now c.args.state.now c.args.step.now c.args.tracks.now (marked c.args.before.now) (marked c.args.behind.now) c.deref.result.now c.in_ok-ways.ways (c.deref.ensures.value ∙ c.in_ok-lines.ensures ∙ ap (lines_to c.args.state.now) c.column.ensures) c.requires.before c.requires.behind (search rules) in
    each_goes g.met.R.TrackRule.is_rule c.args.pins.now c.args.limit c.args.kinds.now c.args.state.now c.args.step.now c.args.tracks.now c.in_ok-ways.ways c.show_limits.ensures c.requires.state is
