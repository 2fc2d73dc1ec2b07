use Rattle.std.proofs.Common.{◌||◌}
use Rattle.track_ways.specs.Lines.{is_ahead}
use Rattle.track_ways.specs.Tables.{marked}
use Rattle.all_ways.specs.StraightSplits.{straight_splits}
use Rattle.all_ways.proofs.straight.many_missing.Goals as goal

pub returns : goal.returns
returns c = straight_splits c.args.pins.now c.args.nets (marked c.args.before.now) c.args.line.now (λ n. is_ahead c.args.rest.now n || marked c.args.behind.now n) c.args.tracks.now c.in_ok-missing.missing.items c.in_ok-missing.ensures
