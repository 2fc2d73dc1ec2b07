use Rattle.std.proofs.Common.{map, sym, subst, ◌∙◌, ap}
use Rattle.std.specs.List.{All, filter}
use Rattle.box_geom.specs.Moving.{moved_by, is_proper}
use Rattle.box_geom.specs.Regions.{IsBlock}
use Rattle.box_geom.proofs.Moved.{moved_blocks, grown_covers}
use Rattle.box_geom.proofs.region.Region.grown.Goals as goal

pub from_blocks-requires : goal.from_blocks-requires
from_blocks-requires c = subst (All IsBlock) (sym (c.as_slice.ensures.value ∙ c.in_ok-blocks.ensures)) (moved_blocks c.outward-moves.result c.blocks-2.result.now)

pub returns : goal.returns
returns c = grown_covers c.outward-moves.result c.args.self.now c.as_slice.result.now c.in_ok-region.region c.args.by c.blocks-2.ensures.banded.blocks c.outward-moves.ensures.sides.x1 c.outward-moves.ensures.sides.y1 c.outward-moves.ensures.sides.x2 c.outward-moves.ensures.sides.y2 (c.as_slice.ensures.value ∙ c.in_ok-blocks.ensures ∙ ap (λ z. filter is_proper (map (moved_by c.outward-moves.result) z)) c.blocks-2.ensures.all) c.in_ok-region.ensures
