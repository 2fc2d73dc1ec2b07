-- The lines of an unfinished search, of a checked log and of a checked certificate of tracks.
use Rattle.std.specs.Prelude.{ℕ, List, ◌++◌, codes}
use Rattle.cell_num.specs.Lines.{count_line, text_line}
use Rattle.track_log.specs.declared.certificate.Course.{Course}
use Rattle.cell_report.specs.Cells.{fewest_by}
use Rattle.cell_report.specs.Rows.{row_text}

-- the gaps that are proved, and the number of lemmas
abbrev pub unfinished_text : ℕ → ℕ → List ℕ
unfinished_text proved lemmas = count_line (codes "proved ") proved ++ count_line (codes "lemmas ") lemmas

-- the row of an accepted log, and the number of its lemmas
abbrev pub checked_text : List ℕ → ℕ → ℕ → ℕ → List ℕ
checked_text name columns gaps lemmas = row_text name columns gaps ++ count_line (codes "lemmas ") lemmas

-- the cell of an accepted certificate of tracks, and its gaps and tracks: no row with at most these gaps has a legal
-- routing on fewer tracks, where nets have this course
abbrev pub low_checked_text : Course → List ℕ → ℕ → ℕ → List ℕ
low_checked_text course name gaps tracks =
    text_line (codes "cell ") name ++ count_line (codes "gaps ") gaps ++ fewest_by course tracks
