use Rattle.std.proofs.Common.{rules, ◌≡◌, List, length, refl, sym, subst}
use Rattle.std.specs.List.{All}
use Rattle.box_geom.specs.Rectangle.{Rectangle, Covers}
use Rattle.box_geom.specs.Regions.{AreBanded}
use Rattle.scmos_rules.specs.Apart.{link_of, hits_of}
use Rattle.number_trees.specs.Links.{Separates}
use Rattle.scmos_rules.specs.Failing.{FailsApart}
use Rattle.scmos_rules.specs.Near.{IsNumberedBlock, numbered, near_over}
use Rattle.scmos_rules.specs.Cells.{AreCells}
use Rattle.scmos_rules.proofs.Classing.{links_inside, hits_blocks, apart_is}
use Rattle.scmos_rules.proofs.Nearing.{are_parts}
use Rattle.scmos_rules.proofs.apart.near_others.Goals as goal

pub classes-requires : goal.classes-requires
classes-requires c =
    let banded : AreBanded c.blocks-blocks.result.now = subst AreBanded (sym c.blocks-blocks.ensures.all) c.blocks-blocks.ensures.banded in
    let links : c.as_slice-2.result.now ≡ near_over 1 link_of (numbered 0 c.blocks-blocks.result.now) = search rules in
    links_inside c.blocks-blocks.result.now c.as_slice-2.result.now (length c.blocks-blocks.result.now) banded links refl

pub all_hits-requires-clause-parts : goal.all_hits-requires-clause-parts
all_hits-requires-clause-parts c =
    let banded : AreBanded c.blocks-blocks.result.now = subst AreBanded (sym c.blocks-blocks.ensures.all) c.blocks-blocks.ensures.banded in
    let parts : c.as_slice-3.result.now ≡ numbered 0 c.blocks-blocks.result.now = search rules in
    let count : length c.as_slice-4.result.now ≡ length c.blocks-blocks.result.now = search rules in
    subst (All (IsNumberedBlock (length c.as_slice-4.result.now))) (sym parts) (are_parts c.blocks-blocks.result.now (length c.as_slice-4.result.now) banded count)

pub from_blocks-requires : goal.from_blocks-requires
from_blocks-requires c =
    let banded : AreBanded c.blocks-blocks.result.now = subst AreBanded (sym c.blocks-blocks.ensures.all) c.blocks-blocks.ensures.banded in
    let hits : c.as_slice-5.result.now ≡ near_over c.args.by (hits_of c.args.by c.as_slice-4.result.now) (numbered 0 c.blocks-blocks.result.now) = search rules in
    hits_blocks c.blocks-blocks.result.now c.as_slice-5.result.now c.args.by c.as_slice-4.result.now banded.blocks hits

pub returns : goal.returns
returns c =
    let banded : AreBanded c.blocks-blocks.result.now = subst AreBanded (sym c.blocks-blocks.ensures.all) c.blocks-blocks.ensures.banded in
    let links : c.as_slice-2.result.now ≡ near_over 1 link_of (numbered 0 c.blocks-blocks.result.now) = search rules in
    let hits : c.as_slice-5.result.now ≡ near_over c.args.by (hits_of c.args.by c.as_slice-4.result.now) (numbered 0 c.blocks-blocks.result.now) = search rules in
    let apart : Separates (length c.blocks-blocks.result.now) c.as_slice-2.result.now c.as_slice-4.result.now = subst (λ ls. Separates (length c.blocks-blocks.result.now) c.as_slice-2.result.now ls) (sym c.as_slice-4.ensures.value) c.in_ok-labels.ensures.same in
    subst (λ (z : List Rectangle). AreCells (FailsApart (Covers z) c.args.by) c.in_ok-region.region) c.blocks-blocks.ensures.all (apart_is c.blocks-blocks.result.now c.as_slice-2.result.now (length c.blocks-blocks.result.now) c.as_slice-4.result.now c.as_slice-5.result.now c.in_ok-region.region c.args.by banded links refl apart hits c.in_ok-region.ensures)
