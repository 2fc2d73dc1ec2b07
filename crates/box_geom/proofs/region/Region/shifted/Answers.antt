use Rattle.std.proofs.Common.{◌≡◌, map, sym, subst, ◌∙◌, ap, arith, w32, to_z, of_z}
use Rattle.std.proofs.lemmas.Int.{to_z-of_z}
use Rattle.std.specs.List.{All, filter}
use Rattle.box_geom.specs.Moving.{moved_by, is_proper}
use Rattle.box_geom.specs.Regions.{IsBlock}
use Rattle.box_geom.proofs.Moved.{moved_blocks, shifted_covers}
use Rattle.box_geom.proofs.region.Region.shifted.Goals as goal

pub from_blocks-requires : goal.from_blocks-requires
from_blocks-requires c = subst (All IsBlock) (sym (c.as_slice.ensures.value ∙ c.in_ok-blocks.ensures)) (moved_blocks c.along-moves.result c.blocks-2.result.now)

pub returns : goal.returns
returns c =
    let x : to_z w32 (of_z w32 c.args.dx) ≡ c.args.dx = grind (arith, to_z-of_z) in
    let y : to_z w32 (of_z w32 c.args.dy) ≡ c.args.dy = grind (arith, to_z-of_z) in
    shifted_covers c.along-moves.result c.args.self.now c.as_slice.result.now c.in_ok-region.region c.args.dx c.args.dy (c.along-moves.ensures.sides.x1 ∙ x) (c.along-moves.ensures.sides.x2 ∙ x) (c.along-moves.ensures.sides.y1 ∙ y) (c.along-moves.ensures.sides.y2 ∙ y) (c.as_slice.ensures.value ∙ c.in_ok-blocks.ensures ∙ ap (λ z. filter is_proper (map (moved_by c.along-moves.result) z)) c.blocks-2.ensures.all) c.in_ok-region.ensures
