use Rattle.std.proofs.Common.{rules}
use Rattle.box_geom.proofs.Moved.{either_alone}
use Rattle.box_geom.proofs.region.Region.from_blocks.Goals as goal

pub returns : goal.returns
returns c = either_alone c.args.blocks.now c.in_ok-region.region (search rules)
