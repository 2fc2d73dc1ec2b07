use Rattle.std.proofs.Common.{◌≡◌, take}
use Rattle.std.specs.List.{filter}
use Rattle.bare_cells.specs.Rows.{is_part}
use Rattle.bare_cells.proofs.rows.parts.Given as goal

abbrev pub invariant-loop-block : goal.invariant-loop-block
invariant-loop-block l = l.parts.items ≡ filter (is_part l.columns) (take l.block-index l.blocks)
