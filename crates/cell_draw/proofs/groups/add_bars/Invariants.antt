use Rattle.std.proofs.Common.{◌≡◌, ◌++◌, drop, flat_map}
use Rattle.cell_draw.specs.Shapes.{bar_shapes}
use Rattle.cell_draw.proofs.groups.add_bars.Given as goal

abbrev pub invariant-loop-bar : goal.invariant-loop-bar
invariant-loop-bar l = l.out ++ flat_map bar_shapes (drop l.bar-index l.bars) ≡ l.fn.out ++ flat_map bar_shapes l.bars
