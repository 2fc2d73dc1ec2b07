use Rattle.std.proofs.Common.{◌||◌, ap, filter, ◌∙◌}
use Rattle.track_ways.specs.Lines.{is_ahead}
use Rattle.track_ways.specs.Tables.{marked}
use Rattle.all_ways.specs.TurningSplits.{turning_splits}
use Rattle.all_ways.proofs.turning.missing_into.Goals as goal

pub returns : goal.returns
returns c = turning_splits c.args.pins.now c.args.nets (marked c.args.before.now) c.args.line.now (λ n. is_ahead c.args.rest.now n || marked c.args.behind.now n) c.args.tracks.now c.in_ok-earlier.earlier.items
    (c.in_ok-earlier.ensures ∙ ap (filter (marked c.args.before.now)) (c.deref.ensures.value ∙ c.in_ok-missing.ensures))
