use Rattle.std.proofs.Common.{◌≡◌, to_z, of_z, w32, arith, subst, ◌∙◌}
use Rattle.std.proofs.lemmas.Int.{to_z-of_z}
use Rattle.bare_cells.specs.Rows.{IsRowOf}
use Rattle.bare_cells.proofs.FirstBare.{row_blocks, row_is}
use Rattle.bare_cells.proofs.bare.row.Goals as goal

pub region_of-requires : goal.region_of-requires
region_of-requires c = row_blocks c.args.blocks.now c.as_slice.result.now (to_z w32 (of_z w32 c.args.y)) (c.as_slice.ensures.value ∙ c.in_ok-parts.ensures) c.requires

pub returns : goal.returns
returns c =
    let same : to_z w32 (of_z w32 c.args.y) ≡ c.args.y = grind (arith, to_z-of_z) in
    subst (λ z. IsRowOf c.args.blocks.now z c.in_ok-region.region) same (row_is c.args.blocks.now c.as_slice.result.now c.in_ok-region.region (to_z w32 (of_z w32 c.args.y)) (c.as_slice.ensures.value ∙ c.in_ok-parts.ensures) c.in_ok-region.ensures)
