use Rattle.std.proofs.Common.{◌∙◌}
use Rattle.row_cycles.proofs.Paths.{above_joined}
use Rattle.cycle_search.proofs.below.Below.mark_below.Goals as goal

pub loop-net-init : goal.loop-net-init
loop-net-init c = (c.mark.ensures.nets, λ pairs sound above. c.mark.ensures.sound pairs sound above)

pub loop-net-preserved : goal.loop-net-preserved
loop-net-preserved c = (
  c.mark-in-loop-net.ensures.nets ∙ c.loop-net.invariant.0,
  λ pairs sound above. c.mark-in-loop-net.ensures.sound pairs (c.loop-net.invariant.1 pairs sound above)
      (above_joined pairs c.args.upper c.args.lower _ above (c.loop-net.invariant.1 pairs sound above _ (c.has.ensures.0 c.if-not-has.false))),
)

pub returns-clause-sound : goal.returns-clause-sound
returns-clause-sound c = c.loop-net.invariant.1
