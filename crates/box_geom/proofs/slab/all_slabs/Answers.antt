use Rattle.std.proofs.Common.{rules, ◌≡◌, ◌<◌, [], length, arith, slice_index_or, sym, subst, ap}
use Rattle.box_geom.specs.Slabbing.{AreSlabsUpTo, all_layers}
use Rattle.box_geom.specs.declared.layer.Layer.TheVariants.{Well}
use Rattle.box_geom.proofs.Slabbing.{no_layers, one_more_layer}
use Rattle.box_geom.proofs.slab.all_slabs.Goals as goal

pub loop-layer-init : goal.loop-layer-init
loop-layer-init c = let e : c.new-slabs.result.items ≡ [] = search rules in subst (AreSlabsUpTo 0 c.args.shapes.now.rects) (sym e) (no_layers c.args.shapes.now.rects)

pub loop-layer-preserved : goal.loop-layer-preserved
loop-layer-preserved c =
    let e : c.layers-layer-items.result.now ≡ all_layers = c.layers-layer-items.ensures in
    let lt : c.loop-layer.layer-index < 9 = omega (arith, ap length e) in
    one_more_layer c.loop-layer.layer-index (slice_index_or c.layers-layer-items.result.now c.loop-layer.layer-index Well) c.args.shapes.now.rects c.in_ok-region.region c.loop-layer.slabs.items c.in_ok-slabs_on.field-0 c.append.new.self.items lt (ap (λ z. slice_index_or z c.loop-layer.layer-index Well) e) c.in_ok-region.ensures c.in_ok-slabs_on.ensures (search rules) c.loop-layer.invariant

pub returns : goal.returns
returns c =
    let e : c.layers-layer-items.result.now ≡ all_layers = c.layers-layer-items.ensures in
    let q : c.loop-layer.layer-index ≡ 9 = omega (arith, ap length e) in
    subst (λ n. AreSlabsUpTo n c.args.shapes.now.rects c.loop-layer.slabs.items) q c.loop-layer.invariant
