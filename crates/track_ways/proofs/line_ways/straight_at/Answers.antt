use Rattle.std.proofs.Common.{rules, ◌||◌}
use Rattle.track_ways.specs.Lines.{is_ahead}
use Rattle.track_ways.specs.Tables.{marked}
use Rattle.track_ways.specs.Ways.{nets_below}
use Rattle.track_ways.proofs.Listing.{fit_ways, unfit_ways}
use Rattle.track_ways.proofs.line_ways.straight_at.Goals as goal

pub returns-then-not-do_fit : goal.returns-then-not-do_fit
returns-then-not-do_fit c = unfit_ways c.args.pins.now c.args.limit (nets_below c.args.nets) (marked c.args.before.now) c.args.line.now (λ n. is_ahead c.args.rest.now n || marked c.args.behind.now n) c.args.tracks.items c.deref.result.now c.do_fit.result c.new-ways.result c.deref.ensures.value c.do_fit.ensures c.if-not-do_fit.true c.new-ways.ensures

pub returns : goal.returns
returns c = fit_ways c.args.pins.now c.args.limit (nets_below c.args.nets) (marked c.args.before.now) c.args.line.now (λ n. is_ahead c.args.rest.now n || marked c.args.behind.now n) c.args.tracks.items c.deref-3.result.now c.new-ways.result c.add_beside.new.ways (search rules) c.new-ways.ensures (search rules)
