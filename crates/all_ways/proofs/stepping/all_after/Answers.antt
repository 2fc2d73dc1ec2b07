use Rattle.std.proofs.Common.{rules, ◌≡◌, ◌↔◌, All, ap, refl, subst, ◌∙◌}
use Rattle.std.specs.Prelude.{IsTrue}
use Rattle.track_ways.specs.Paths.{lines_to}
use Rattle.track_ways.specs.Tables.{marked}
use Rattle.track_ways.specs.Ways.{goes_ways_by, nets_below, pass_ways_by}
use Rattle.track_ways.proofs.Nets.{entries}
use Rattle.track_ways.proofs.Through.{goes_is}
use Rattle.all_ways.proofs.stepping.all_after.Goals as goal

pub all_through-requires : goal.all_through-requires
all_through-requires g c = record {
  ready = c.requires.ready;
  lines = entries c.args.kinds.now c.args.state.now c.args.step.now c.deref.result.now c.show_limits.ensures c.requires.state (c.deref.ensures.value ∙ c.in_ok-lines.ensures ∙ ap (lines_to c.args.state.now) c.column.ensures);
}

pub returns : goal.returns
returns g c =
    let is : pass_ways_by g.R.TrackRule.ways c.args.pins.now c.args.limit (nets_below c.args.kinds.now.nets) (marked c.args.before.now) c.deref.result.now (marked c.args.behind.now) c.args.tracks.now ≡ goes_ways_by g.R.TrackRule.ways c.args.pins.now c.args.limit c.args.kinds.now c.args.state.now c.args.tracks.now c.args.step.now =
    goes_is g.R.TrackRule.ways c.args.pins.now c.args.limit c.args.kinds.now c.args.state.now c.args.step.now c.args.tracks.now (marked c.args.before.now) (marked c.args.behind.now) c.deref.result.now
    (pass_ways_by g.R.TrackRule.ways c.args.pins.now c.args.limit (nets_below c.args.kinds.now.nets) (marked c.args.before.now) c.deref.result.now (marked c.args.behind.now) c.args.tracks.now)
    (c.deref.ensures.value ∙ c.in_ok-lines.ensures ∙ ap (lines_to c.args.state.now) c.column.ensures) c.requires.before c.requires.behind refl in
    let decides : IsTrue c.in_ok-all.all ↔ All (g.T.WayTest.passes c.args.test.now) (pass_ways_by g.R.TrackRule.ways c.args.pins.now c.args.limit (nets_below c.args.kinds.now.nets) (marked c.args.before.now) c.deref.result.now (marked c.args.behind.now) c.as_slice.result.now) = search rules in
    subst (λ ways. IsTrue c.in_ok-all.all ↔ All (g.T.WayTest.passes c.args.test.now) ways)
    (ap (pass_ways_by g.R.TrackRule.ways c.args.pins.now c.args.limit (nets_below c.args.kinds.now.nets) (marked c.args.before.now) c.deref.result.now (marked c.args.behind.now)) c.as_slice.ensures ∙ is) decides
