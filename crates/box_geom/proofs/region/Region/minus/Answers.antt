use Rattle.box_geom.specs.declared.sweep.Operation.TheVariants.{Minus}
use Rattle.box_geom.proofs.Moved.{made_of}
use Rattle.box_geom.proofs.region.Region.minus.Goals as goal

pub returns : goal.returns
returns c = made_of Minus c.args.self.now c.args.other.now c.blocks-2.result.now c.blocks-3.result.now c.in_ok-region.region c.blocks-2.ensures.all c.blocks-3.ensures.all c.in_ok-region.ensures
