use Rattle.std.proofs.Common.{◌≡◌, map, take}
use Rattle.std.specs.List.{filter}
use Rattle.bare_cells.specs.Rows.{in_row, stands_in}
use Rattle.bare_cells.proofs.bare.parts_of_row.Given as goal

abbrev pub invariant-loop-block : goal.invariant-loop-block
invariant-loop-block l = l.parts.items ≡ map in_row (filter (stands_in l.y) (take l.block-index l.blocks))
