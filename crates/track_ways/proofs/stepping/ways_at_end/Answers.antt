use Rattle.std.proofs.Common.{rules, ◌∙◌}
use Rattle.track_ways.specs.Tables.{marked}
use Rattle.track_ways.proofs.Nets.{end_entries}
use Rattle.track_ways.proofs.Through.{ends_is}
use Rattle.track_ways.proofs.stepping.ways_at_end.Goals as goal

pub ways_through-requires : goal.ways_through-requires
ways_through-requires g c = end_entries c.args.kinds.now c.args.state.now c.deref.result.now c.show_limits.ensures c.requires.state (c.deref.ensures.value ∙ c.in_ok-lines.ensures)

pub returns : goal.returns
returns g c = ends_is g.R.TrackRule.ways c.args.pins.now c.args.limit c.args.kinds.now c.args.state.now c.args.tracks.now (marked c.args.before.now) (marked c.no_nets-none.result) c.deref.result.now c.in_ok-ways.ways (c.deref.ensures.value ∙ c.in_ok-lines.ensures) c.requires.before c.no_nets-none.ensures (search rules)
