use Rattle.cell_make.proofs.Makes.{placed_low}
use Rattle.cell_make.proofs.draw_outcome.DrawOutcome.lowest.Goals as goal

pub of_routed-requires-clause-places : goal.of_routed-requires-clause-places
of_routed-requires-clause-places c = placed_low c.args.inputs.now c.args.placement c.show_limits.ensures c.requires.arranged c.requires.placed
