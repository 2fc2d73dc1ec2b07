-- The lines of a row. Widths of fingers are in grid units of half a lambda each.
use Rattle.std.specs.Prelude.{ℕ, ◌+◌, List, [], ◌++◌, length, flat_map, codes, decimal, Option, Some, None}
use Rattle.std.specs.List.{enumerate_from}
use Rattle.cell_num.specs.Lines.{text_line, count_line}
use Rattle.cell_num.specs.declared.net.NetNo.{NetNo}
use Rattle.row_model.specs.declared.column.Placed.{Placed}
use Rattle.row_model.specs.declared.column.Column.{Column}
use Rattle.row_model.specs.Arrangement.{gate_in}
use Rattle.row_model.specs.Gaps.{left_net, right_net, gaps_of}
use Rattle.cell_report.specs.Names.{name_of}

-- a finger's left net, right net and width, or an empty place
abbrev pub place_text : List (List ℕ) → Option Placed → List ℕ
place_text nets None = codes "- - 0"
place_text nets (Some x) =
    name_of nets (left_net x).0 ++ codes " " ++ name_of nets (right_net x).0 ++ codes " " ++ decimal x.finger.width

-- the gate of a column by its name
abbrev pub gate_text : List (List ℕ) → Option NetNo → List ℕ
gate_text nets None = []
gate_text nets (Some gate) = name_of nets gate.0

abbrev pub column_text : List (List ℕ) → ℕ × Column → List ℕ
column_text nets numbered =
    codes "column "
    ++ decimal numbered.0
    ++ codes " gate "
    ++ gate_text nets (gate_in numbered.1.p numbered.1.n)
    ++ codes " p "
    ++ place_text nets numbered.1.p
    ++ codes " n "
    ++ place_text nets numbered.1.n
    ++ codes "\n"

abbrev pub columns_text : List (List ℕ) → List Column → List ℕ
columns_text nets row = flat_map (column_text nets) (enumerate_from 0 row)

-- the cell's name, the columns and gaps of its row, and its width, which is their sum
abbrev pub row_text : List ℕ → ℕ → ℕ → List ℕ
row_text name columns gaps =
    text_line (codes "cell ") name
    ++ count_line (codes "columns ") columns
    ++ count_line (codes "gaps ") gaps
    ++ count_line (codes "width ") (columns + gaps)

-- the same of a row, and each column
abbrev pub plan_text : List ℕ → List (List ℕ) → List Column → List ℕ
plan_text name nets row = row_text name (length row) (gaps_of row) ++ columns_text nets row
