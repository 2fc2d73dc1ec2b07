use Rattle.std.proofs.Common.{rules}
use Rattle.cell_draw.proofs.Sizes.{seats_low}
use Rattle.cell_draw.proofs.plan.layout.Goals as goal

pub strips-requires : goal.strips-requires
strips-requires c = seats_low c.args.placement.now.row c.as_slice.result.now (search rules) c.requires.few

pub gates-requires-clause-seats : goal.gates-requires-clause-seats
gates-requires-clause-seats c = seats_low c.args.placement.now.row c.as_slice-2.result.now (search rules) c.requires.few
