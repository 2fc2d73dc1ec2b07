use Rattle.box_geom.specs.Rectangle.{Covers}
use Rattle.scmos_rules.specs.Cells.{AreCells}
use Rattle.scmos_rules.specs.Regions.{Lacks, way_of}
use Rattle.scmos_rules.proofs.gates.lacking.Given as goal

abbrev pub invariant-loop-distance : goal.invariant-loop-distance
invariant-loop-distance l = AreCells (λ x y. Covers l.base x y × Lacks (Covers l.set) (way_of l.heading) l.distance x y) l.found
