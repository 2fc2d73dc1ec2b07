use Rattle.std.proofs.Common.{◌≡◌, ◌≤◌, ◌*◌, ◌++◌, drop, map}
use Rattle.row_abut.specs.Row.{standing, standing_behind}
use Rattle.row_abut.specs.Structs.{ref_at}
use Rattle.row_abut.specs.Measures.{MOST_REACH}
use Rattle.row_abut.proofs.structs.refs.Given as goal

abbrev pub invariant-cells : goal.invariant-cells
invariant-cells l =
    (l.refs ++ map ref_at (standing_behind l.cell-index l.x (drop l.cell-index l.cells)) ≡ map ref_at (standing l.cells))
    × (l.x ≤ MOST_REACH * l.cell-index)
