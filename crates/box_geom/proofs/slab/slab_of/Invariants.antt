use Rattle.std.proofs.Common.{◌≡◌, map, take}
use Rattle.box_geom.specs.Slabbing.{across}
use Rattle.box_geom.proofs.slab.slab_of.Given as goal

abbrev pub invariant-loop-block : goal.invariant-loop-block
invariant-loop-block l = l.ranges ≡ map across (take l.block-index l.band)
