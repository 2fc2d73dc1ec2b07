use Rattle.std.proofs.Common.{rules, ◌≡◌, ◌↔◌, ℤ, sym, subst}
use Rattle.box_geom.specs.Rectangle.{Covers}
use Rattle.box_geom.specs.Layers.{rects_on}
use Rattle.box_geom.specs.Slabbing.{SlabsCover, AreSlabsUpTo}
use Rattle.box_geom.specs.declared.layer.Layer.{Layer}
use Rattle.box_geom.proofs.Slabbing.{whole}
use Rattle.box_geom.proofs.slab.Slabs.new.Goals as goal

pub returns-clause-cells : goal.returns-clause-cells
returns-clause-cells c =
    let up : AreSlabsUpTo 9 c.args.shapes.now.rects c.in_ok-slabs.slabs.items = c.in_ok-slabs.ensures in
    let e : c.from_vec.result ≡ c.in_ok-slabs.slabs.items = search rules in
    subst (λ z. (layer : Layer) (x y : ℤ) → SlabsCover z layer x y ↔ Covers (rects_on layer c.args.shapes.now.rects) x y) (sym e) (whole c.args.shapes.now.rects c.in_ok-slabs.slabs.items up)
