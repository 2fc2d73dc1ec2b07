use Rattle.std.proofs.Common.{◌≡◌, map, sym, subst, ◌∙◌, ap}
use Rattle.std.specs.List.{All}
use Rattle.box_geom.specs.Moving.{turned_by}
use Rattle.box_geom.specs.Regions.{IsBlock}
use Rattle.box_geom.proofs.Moved.{turned_blocks, turned_covers}
use Rattle.box_geom.proofs.region.Region.turned.Goals as goal

pub from_blocks-requires : goal.from_blocks-requires
from_blocks-requires c =
    let e : c.as_slice.result.now ≡ map turned_by c.args.self.now = c.as_slice.ensures.value ∙ c.in_ok-blocks.ensures ∙ ap (map turned_by) c.blocks-2.ensures.all in
    subst (All IsBlock) (sym e) (turned_blocks c.args.self.now c.blocks-2.ensures.banded.blocks)

pub returns : goal.returns
returns c =
    let e : c.as_slice.result.now ≡ map turned_by c.args.self.now = c.as_slice.ensures.value ∙ c.in_ok-blocks.ensures ∙ ap (map turned_by) c.blocks-2.ensures.all in
    turned_covers c.args.self.now c.as_slice.result.now c.in_ok-region.region e c.in_ok-region.ensures
