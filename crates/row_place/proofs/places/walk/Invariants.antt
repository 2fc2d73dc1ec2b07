use Rattle.std.proofs.Common.{◌≡◌, ◌≤◌, ◌*◌, ◌++◌, All, length, drop}
use Rattle.row_place.specs.Units.{units_of, units_behind, seats_of, seats_from}
use Rattle.row_place.proofs.places.walk.Given as goal

abbrev pub invariant-loop-column : goal.invariant-loop-column
invariant-loop-column l =
    (l.units ++ units_behind l.before (drop l.column-index l.columns) ≡ units_of l.columns)
    × (l.seats ++ seats_from (length l.units) l.before (drop l.column-index l.columns) ≡ seats_of l.columns)
    × (length l.units ≤ 2 * l.column-index)
    × All (λ seat. seat.unit ≤ 64) l.seats
