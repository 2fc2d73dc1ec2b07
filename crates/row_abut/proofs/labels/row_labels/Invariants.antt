use Rattle.std.proofs.Common.{◌≡◌, ◌≤◌, ◌*◌, ◌++◌, drop}
use Rattle.std.specs.List.{flat_map}
use Rattle.row_abut.specs.Row.{labels_at, standing, standing_behind}
use Rattle.row_abut.specs.Measures.{MOST_REACH}
use Rattle.row_abut.proofs.labels.row_labels.Given as goal

abbrev pub invariant-cells : goal.invariant-cells
invariant-cells l =
    (l.labels ++ flat_map labels_at (standing_behind l.number l.x (drop l.number l.cells)) ≡ flat_map labels_at (standing l.cells))
    × (l.x ≤ MOST_REACH * l.number)
