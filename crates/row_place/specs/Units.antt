-- The units of a row and their lines. Unit u has the node lines 2u and 2u + 2 and between them the
-- gate line 2u + 1, so neighbouring units share a node line.
use Rattle.std.specs.Prelude.{ℕ, suc, ◌+◌, cond, List, [], ◌∷◌, ◌++◌, Option, Some, None, length, take}
use Rattle.row_model.specs.declared.column.Column.{Column}
use Rattle.row_model.specs.Gaps.{is_gap, gaps_of}
use Rattle.row_place.specs.declared.placement.Seat.{Seat}
use Rattle.row_place.specs.declared.placement.UnitKind.{UnitKind}
use Rattle.row_place.specs.declared.placement.UnitKind.TheVariants.{Column as ColumnUnit, Gap}

-- the gap unit between two columns, if there is one
abbrev pub gap_between : Option Column → Column → List UnitKind
gap_between None after = []
gap_between (Some before) after = cond (is_gap (before, after)) (Gap ∷ []) []

abbrev pub units_behind : Option Column → List Column → List UnitKind
units_behind before [] = []
units_behind before (column ∷ row) = gap_between before column ++ ColumnUnit ∷ units_behind (Some column) row

-- the columns and the gaps, from left to right
abbrev pub units_of : List Column → List UnitKind
units_of row = units_behind None row

-- the unit of the column at a place of the row: as many units stand before it as columns and gaps
abbrev pub unit_of : List Column → ℕ → ℕ
unit_of row at = at + gaps_of (take (suc at) row)

-- the columns with their units, where the first unit that is free has this number
abbrev pub seats_from : ℕ → Option Column → List Column → List Seat
seats_from unit before [] = []
seats_from unit before (column ∷ row) =
    record { column = column; unit = unit + length (gap_between before column) } ∷
    seats_from (unit + length (gap_between before column) + 1) (Some column) row

-- the columns of a row, each with its unit
abbrev pub seats_of : List Column → List Seat
seats_of row = seats_from 0 None row
