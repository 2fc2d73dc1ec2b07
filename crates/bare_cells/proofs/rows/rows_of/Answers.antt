use Rattle.std.proofs.Common.{◌∙◌}
use Rattle.bare_cells.proofs.Stretches.{rows_are, rows_blocks}
use Rattle.bare_cells.proofs.rows.rows_of.Goals as goal

pub region_of-requires : goal.region_of-requires
region_of-requires c = rows_blocks c.args.blocks.now c.as_slice.result.now (c.as_slice.ensures.value ∙ c.in_ok-rows.ensures) c.requires

pub returns : goal.returns
returns c = rows_are c.args.blocks.now c.as_slice.result.now c.in_ok-region.region (c.as_slice.ensures.value ∙ c.in_ok-rows.ensures) c.in_ok-region.ensures
