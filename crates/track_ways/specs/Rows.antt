-- The lines of a row, column by column.
use Rattle.std.specs.Prelude.{Bool, ◌||◌, if◌then◌else◌, List, [], ◌∷◌, ◌++◌, Option, None}
use Rattle.std.specs.Option.{option_map}
use Rattle.cell_num.specs.declared.net.NetNo.{NetNo}
use Rattle.cell_num.specs.declared.finger.Row.{Row}
use Rattle.row_model.specs.declared.column.Placed.{Placed}
use Rattle.row_model.specs.declared.column.Column.{Column}
use Rattle.row_model.specs.Arrangement.{place, gate_in}
use Rattle.row_model.specs.Gaps.{left_net, right_net}
use Rattle.row_trails.specs.Trails.{end_differs}
use Rattle.row_place.specs.Steps.{or_else}
use Rattle.track_ways.specs.declared.line.Line.{Line}

abbrev pub left_end : Option Placed → Option NetNo
left_end placed = option_map left_net placed

abbrev pub right_end : Option Placed → Option NetNo
right_end placed = option_map right_net placed

abbrev pub node_line : Option NetNo → Option NetNo → Line
node_line p n = record { p = p; n = n; gate = None }

abbrev pub gate_line : Column → Line
gate_line c = record { p = None; n = None; gate = gate_in c.p c.n }

-- there is a gap between these open ends and the column
abbrev pub is_gap_behind : Option NetNo → Option NetNo → Column → Bool
is_gap_behind p n c = end_differs p c.p || end_differs n c.n

-- the node lines from these open ends to the column: one, or those of a gap unit
abbrev pub lines_between : Option NetNo → Option NetNo → Column → List Line
lines_between p n c =
    if is_gap_behind p n c
    then node_line p n ∷ node_line None None ∷ node_line (left_end c.p) (left_end c.n) ∷ []
    else node_line (or_else p (left_end c.p)) (or_else n (left_end c.n)) ∷ []

-- the lines from the last node line on, where these are the open ends at it
abbrev pub lines_behind : Option NetNo → Option NetNo → List Column → List Line
lines_behind p n [] = node_line p n ∷ []
lines_behind p n (c ∷ cs) = lines_between p n c ++ gate_line c ∷ lines_behind (right_end c.p) (right_end c.n) cs

-- those up to the last node line of some columns, without that line
abbrev pub lines_before : Option NetNo → Option NetNo → List Column → List Line
lines_before p n [] = []
lines_before p n (c ∷ cs) = lines_between p n c ++ gate_line c ∷ lines_before (right_end c.p) (right_end c.n) cs

-- the open end after some columns
abbrev pub end_after : Row → Option NetNo → List Column → Option NetNo
end_after row end [] = end
end_after row end (c ∷ cs) = end_after row (right_end (place row c)) cs

-- all lines of a row
abbrev pub lines_of_row : List Column → List Line
lines_of_row row = lines_behind None None row
