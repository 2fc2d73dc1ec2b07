use Rattle.std.proofs.Common.{◌≡◌, take}
use Rattle.std.specs.List.{filter}
use Rattle.bare_cells.specs.Rows.{is_wide}
use Rattle.bare_cells.proofs.rows.wide.Given as goal

abbrev pub invariant-loop-block : goal.invariant-loop-block
invariant-loop-block l = l.wide.items ≡ filter (is_wide l.columns) (take l.block-index l.blocks)
