use Rattle.std.proofs.Common.{◌≡◌, ◌++◌, drop, map}
use Rattle.cell_draw.specs.Layouts.{bar_of}
use Rattle.cell_draw.proofs.bars.bars.Given as goal

abbrev pub invariant-loop-trunk : goal.invariant-loop-trunk
invariant-loop-trunk l = l.bars ++ map (bar_of l.frame l.nodes l.trunks l.xs) (drop l.trunk-index l.trunks) ≡ map (bar_of l.frame l.nodes l.trunks l.xs) l.trunks
