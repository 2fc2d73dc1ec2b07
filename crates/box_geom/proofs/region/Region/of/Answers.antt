use Rattle.std.proofs.Common.{rules, ◌≡◌, sym, subst}
use Rattle.std.specs.List.{All}
use Rattle.box_geom.specs.Layers.{rects_on}
use Rattle.box_geom.specs.Regions.{IsBlock, SameCells}
use Rattle.box_geom.proofs.Moved.{limits_blocks}
use Rattle.box_geom.proofs.region.Region.of.Goals as goal

pub from_blocks-requires : goal.from_blocks-requires
from_blocks-requires c =
    let e : c.as_slice-2.result.now ≡ rects_on c.args.layer c.args.shapes.now.rects = search rules in
    subst (All IsBlock) (sym e) (limits_blocks (rects_on c.args.layer c.args.shapes.now.rects) (c.show_limits.ensures.on c.args.layer))

pub returns : goal.returns
returns c =
    let e : c.as_slice-2.result.now ≡ rects_on c.args.layer c.args.shapes.now.rects = search rules in
    subst (SameCells c.in_ok-region.region) e c.in_ok-region.ensures
