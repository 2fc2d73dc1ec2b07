use Rattle.std.proofs.Common.{◌≡◌, take}
use Rattle.bare_cells.specs.Rows.{reached}
use Rattle.bare_cells.proofs.bare.reached.Given as goal

abbrev pub invariant-loop-block : goal.invariant-loop-block
invariant-loop-block l = l.columns ≡ reached (take l.block-index l.blocks)
