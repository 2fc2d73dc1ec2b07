use Rattle.std.proofs.Common.{rules, ◌≡◌, ◌++◌, ◌≤◌, ap, length, take, take_all, ◌∙◌}
use Rattle.std.specs.List.{flat_map}
use Rattle.track_ways.specs.Tables.{marked}
use Rattle.track_ways.specs.Ways.{nets_below, pass_ways_by}
use Rattle.track_ways.proofs.Through.{pass_next}
use Rattle.track_ways.proofs.passing.+add_ways.Goals as goal

pub returns : goal.returns
returns g t c =
    let all : length c.as_slice-way-items.result.now ≤ c.loop-way.way-index = search rules in
    let is : c.as_slice-way-items.result.now ≡ c.in_ok-here.here = search rules in
    let so_far : c.loop-way.ways ≡ c.args.ways.now ++ flat_map (pass_ways_by g.R.TrackRule.ways c.args.pins.now c.args.limit (nets_below c.args.nets) (marked c.with_line-after.result) c.in-Some.rest.now (marked c.args.behind.now)) (take c.loop-way.way-index c.as_slice-way-items.result.now) = c.loop-way.invariant in
    pass_next g.R.TrackRule.ways c.args.pins.now c.args.limit (nets_below c.args.nets) (marked c.args.before.now) c.args.lines.now c.in-Some.line.now c.in-Some.rest.now (marked c.args.behind.now) c.args.tracks.now c.in_ok-kept.kept.items c.in_ok-here.here (marked c.with_line-after.result) c.loop-way.ways c.args.ways.now (search rules) (search rules) (search rules) (search rules)
    (so_far ∙ ap (λ ws. c.args.ways.now ++ flat_map (pass_ways_by g.R.TrackRule.ways c.args.pins.now c.args.limit (nets_below c.args.nets) (marked c.with_line-after.result) c.in-Some.rest.now (marked c.args.behind.now)) ws) (take_all c.loop-way.way-index c.as_slice-way-items.result.now all ∙ is))
