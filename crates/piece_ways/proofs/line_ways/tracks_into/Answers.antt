use Rattle.std.proofs.Common.{◌||◌}
use Rattle.track_ways.specs.Lines.{is_ahead}
use Rattle.track_ways.specs.Tables.{marked}
use Rattle.track_ways.specs.Ways.{nets_below}
use Rattle.piece_ways.proofs.Listing.{unfit_ways}
use Rattle.piece_ways.proofs.line_ways.tracks_into.Goals as goal

pub returns-then-not-do_fit : goal.returns-then-not-do_fit
returns-then-not-do_fit c = unfit_ways c.args.pins.now c.args.limit (nets_below c.args.nets) (marked c.args.before.now) c.args.line.now (λ n. is_ahead c.args.rest.now n || marked c.args.after.now n) c.args.tracks.items c.deref.result.now c.do_fit.result c.new-ways.result c.deref.ensures.value c.do_fit.ensures c.if-not-do_fit.true c.new-ways.ensures
