-- What a search took, and the report of it.
use Rattle.std.specs.Prelude.{ℕ, List, ◌++◌, length, codes}
use Rattle.cell_num.specs.Lines.{count_line}
use Rattle.row_search.specs.declared.found.FoundKept.{FoundKept}
use Rattle.row_bench.specs.declared.measurement.Measurement.{Measurement}
use Rattle.row_bench.specs.declared.measurement.Measurement.TheVariants.{Row, Budget}

-- the nodes of the budget that a search took which found a row, its lemmas and the row's gaps
abbrev pub found_measured : FoundKept → Measurement
found_measured found = Row found.nodes (length found.kept) found.best.gaps

-- one line for each number
abbrev pub report_of : Measurement → List ℕ
report_of (Row nodes lemmas gaps) =
    count_line (codes "nodes ") nodes ++ count_line (codes "lemmas ") lemmas ++ count_line (codes "gaps ") gaps
report_of (Budget lemmas proved) =
    codes "unfinished\n" ++ count_line (codes "lemmas ") lemmas ++ count_line (codes "proved ") proved
