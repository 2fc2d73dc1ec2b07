use Rattle.std.proofs.Common.{sym, ◌∙◌}
use Rattle.track_ways.specs.Beside.{alone}
use Rattle.track_ways.proofs.fit.do_fit.Goals as goal

pub returns : goal.returns
returns c = c.fit_line.ensures ∙ sym (alone c.args.limit c.args.line.now c.args.tracks.now)
