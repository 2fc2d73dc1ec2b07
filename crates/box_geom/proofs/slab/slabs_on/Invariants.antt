use Rattle.std.proofs.Common.{length}
use Rattle.box_geom.proofs.Slabbing.{AreCut}
use Rattle.box_geom.proofs.slab.slabs_on.Given as goal

abbrev pub invariant-loop-rest : goal.invariant-loop-rest
invariant-loop-rest l = AreCut l.layer l.region l.rest l.slabs

abbrev pub decreases-loop-rest : goal.decreases-loop-rest
decreases-loop-rest l = length l.rest
