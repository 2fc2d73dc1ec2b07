use Rattle.std.proofs.Common.{rules}
use Rattle.cell_draw.proofs.Sizes.{seats_low}
use Rattle.cell_draw.proofs.plan.base.Goals as goal

pub strips-requires : goal.strips-requires
strips-requires c = seats_low c.args.placement.now.row c.as_slice.result.now (search rules) c.requires
