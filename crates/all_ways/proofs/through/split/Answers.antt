use Rattle.std.proofs.Common.{rules, ◌≡◌, ◌∷◌, subst, sym}
use Rattle.track_ways.specs.Tables.{marked}
use Rattle.all_ways.specs.Onward.{SplitsOnward}
use Rattle.all_ways.proofs.Passing.{split_line}
use Rattle.all_ways.proofs.through.split.Goals as goal

pub returns : goal.returns
returns g c =
    let is : c.args.lines.now ≡ c.in-Some.line.now ∷ c.in-Some.rest.now = search rules in
    subst (λ lines. SplitsOnward g.R.TrackRule.ways c.args.task.now.pins.now c.args.task.now.nets c.args.task.now.limit (marked c.args.before.now) lines (marked c.args.task.now.behind.now) c.args.tracks.now c.in_ok-split.split.items) (sym is)
    (split_line g.R.TrackRule.ways c.args.task.now.pins.now c.args.task.now.nets c.args.task.now.limit (marked c.args.before.now) c.in-Some.line.now c.in-Some.rest.now (marked c.args.task.now.behind.now) c.args.tracks.now c.in_ok-split.split.items c.in_ok-split.ensures)
