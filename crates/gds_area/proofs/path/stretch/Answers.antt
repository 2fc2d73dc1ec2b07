use Rattle.std.proofs.Common.{arith}
use Rattle.std.proofs.lemmas.Int.{ints}
use Rattle.gds_area.proofs.Stretches.{stretch_is}
use Rattle.gds_area.proofs.path.stretch.Goals as goal

pub returns : goal.returns
returns c =
    stretch_is _ c.args.before c.args.behind c.args.low.now c.args.high.now
    (omega (arith, ints, c.from-first.ensures, c.from.ensures, c.ranges.before.fits))
    (omega (arith, ints, c.from-last.ensures, c.from-2.ensures, c.ranges.behind.fits))
