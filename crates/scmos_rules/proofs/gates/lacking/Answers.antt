use Rattle.std.proofs.Common.{◌≡◌, arith, subst}
use Rattle.box_geom.specs.Rectangle.{Covers}
use Rattle.scmos_rules.specs.Cells.{AreCells}
use Rattle.scmos_rules.specs.Regions.{Lacks, way_of}
use Rattle.scmos_rules.proofs.Directions.{none_lacks, one_more_lacks}
use Rattle.scmos_rules.proofs.gates.lacking.Goals as goal

pub loop-distance-init : goal.loop-distance-init
loop-distance-init c = none_lacks (Covers c.args.base.now) (Covers c.args.set.now) (way_of c.args.heading) c.empty-found.result c.empty-found.ensures

pub loop-distance-preserved : goal.loop-distance-preserved
loop-distance-preserved c = one_more_lacks c.args.base.now (Covers c.args.set.now) (way_of c.args.heading) c.loop-distance.distance c.loop-distance.found c.in_ok-there.there c.in_ok-out.out c.in_ok-more.more c.requires.inner c.loop-distance.invariant c.in_ok-there.ensures c.in_ok-out.ensures c.in_ok-more.ensures

pub returns : goal.returns
returns c =
    let e : c.loop-distance.distance ≡ c.args.last = omega arith in
    subst (λ n. AreCells (λ x y. Covers c.args.base.now x y × Lacks (Covers c.args.set.now) (way_of c.args.heading) n x y) c.loop-distance.found) e c.loop-distance.invariant
