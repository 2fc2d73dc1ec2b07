use Rattle.std.proofs.Common.{rules, ◌≡◌, ◌++◌, ◌∷◌, [], true, false, sym, subst, ap, ◌∙◌, arith, w32, to_z, of_z}
use Rattle.std.specs.List.Sorted.{IsPartitionPoint}
use Rattle.std.proofs.lemmas.Int.{to_z-of_z}
use Rattle.box_geom.specs.Rectangle.{Rectangle}
use Rattle.box_geom.specs.Slabbing.{slab_of}
use Rattle.box_geom.proofs.Rising.{begins_by, banded_rising}
use Rattle.box_geom.proofs.Slabbing.{AreCut, none_cut, cut_banded, next_slab_at}
use Rattle.box_geom.proofs.slab.slabs_on.Goals as goal

pub loop-rest-init : goal.loop-rest-init
loop-rest-init c =
    let e : c.new-slabs.result ≡ [] = search rules in
    let r : c.blocks-rest.result.now ≡ c.args.region.now = search rules in
    subst (λ z. AreCut c.args.layer c.args.region.now z c.new-slabs.result) (sym r) (subst (AreCut c.args.layer c.args.region.now c.args.region.now) (sym e) (none_cut c.args.layer c.args.region.now))

pub count_begun-requires : goal.count_begun-requires
count_begun-requires c = banded_rising c.loop-rest.rest.now (cut_banded c.args.layer c.args.region.now c.loop-rest.rest.now c.loop-rest.slabs c.blocks-rest.ensures.banded c.loop-rest.invariant)

pub loop-rest-preserved : goal.loop-rest-preserved
loop-rest-preserved c =
    let y : to_z w32 (of_z w32 c.first.inside.y1) ≡ c.first-item.result.y1 = (let e : c.first.inside.y1 ≡ c.first-item.result.y1 = ap (λ (r : Rectangle). r.y1) c.first.view_is in grind (arith, to_z-of_z)) in
    let parts : IsPartitionPoint (λ r. begins_by c.first-item.result.y1 r ≡ true) (λ r. begins_by c.first-item.result.y1 r ≡ false) c.loop-rest.rest.now c.count_begun.result = subst (λ z. IsPartitionPoint (λ r. begins_by z r ≡ true) (λ r. begins_by z r ≡ false) c.loop-rest.rest.now c.count_begun.result) y c.count_begun.ensures.parts in
    let more : c.push.new.self ≡ c.loop-rest.slabs ++ slab_of c.args.layer c.first-item.result c.split_at.result.0.now ∷ [] = c.in_ok-push.ensures.ok ∙ ap (λ s. c.loop-rest.slabs ++ s ∷ []) c.in_ok-slab.ensures in
    next_slab_at c.args.layer c.args.region.now c.loop-rest.rest.now c.split_at.result.0.now c.split_at.result.1.now c.first-item.result c.loop-rest.slabs c.push.new.self c.count_begun.result c.blocks-rest.ensures.banded c.loop-rest.invariant c.in-len1-up.len_at_least c.first-item.is c.count_begun.ensures.bound parts c.split_at.ensures.front c.split_at.ensures.back more
