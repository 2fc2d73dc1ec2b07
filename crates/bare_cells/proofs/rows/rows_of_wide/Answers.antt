use Rattle.std.proofs.Common.{subst, sym, ◌∙◌}
use Rattle.std.specs.List.{All}
use Rattle.box_geom.specs.Regions.{IsBlock}
use Rattle.bare_cells.specs.Rows.{is_wide, AreRowsOf}
use Rattle.bare_cells.proofs.Stretches.{kept_blocks}
use Rattle.bare_cells.proofs.rows.rows_of_wide.Goals as goal

pub rows_of-requires : goal.rows_of-requires
rows_of-requires c = subst (All IsBlock) (sym (c.as_slice.ensures.value ∙ c.in_ok-wide.ensures)) (kept_blocks (is_wide c.args.columns.now) c.args.blocks.now c.requires)

pub returns : goal.returns
returns c = subst (λ rs. AreRowsOf rs c.in_ok-region.region) (c.as_slice.ensures.value ∙ c.in_ok-wide.ensures) c.in_ok-region.ensures
