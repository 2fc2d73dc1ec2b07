use Rattle.std.proofs.Common.{◌≡◌, map, take}
use Rattle.bare_cells.specs.Rows.{as_rows}
use Rattle.bare_cells.proofs.rows.all_rows.Given as goal

abbrev pub invariant-loop-block : goal.invariant-loop-block
invariant-loop-block l = l.rows.items ≡ map as_rows (take l.block-index l.blocks)
