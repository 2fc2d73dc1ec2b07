use Rattle.row_cycles.proofs.Paths.{above_joined}
use Rattle.cycle_search.proofs.below.Below.add.Goals as goal

pub loop-net-init : goal.loop-net-init
loop-net-init c = λ pairs sound follows. c.mark_below.ensures.sound pairs sound follows

pub loop-net-preserved : goal.loop-net-preserved
loop-net-preserved c = λ pairs sound follows. c.mark_below-in-loop-net.ensures.sound pairs (c.loop-net.invariant pairs sound follows)
    (above_joined pairs _ c.args.a.now.upper c.args.a.now.lower (c.loop-net.invariant pairs sound follows _ (c.has.ensures.0 c.if-not-has.false)) follows)

pub returns : goal.returns
returns c = c.loop-net.invariant
