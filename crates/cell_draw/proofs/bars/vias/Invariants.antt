use Rattle.std.proofs.Common.{◌≡◌, ◌++◌, drop, map, filter}
use Rattle.row_compact.specs.Solution.{x_of}
use Rattle.cell_draw.specs.Layouts.{has_via, vias_of}
use Rattle.cell_draw.proofs.bars.vias.Given as goal

abbrev pub invariant-loop-node : goal.invariant-loop-node
invariant-loop-node l = l.vias ++ map (λ node. x_of l.xs node.line) (filter (has_via l.nodes l.trunks l.trunk) (drop l.node-index l.nodes)) ≡ vias_of l.nodes l.trunks l.xs l.trunk
