use Rattle.box_geom.specs.Slabbing.{AreSlabsUpTo}
use Rattle.box_geom.proofs.slab.all_slabs.Given as goal

abbrev pub invariant-loop-layer : goal.invariant-loop-layer
invariant-loop-layer l = AreSlabsUpTo l.layer-index l.shapes.rects l.slabs.items
