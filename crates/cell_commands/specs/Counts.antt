-- What is reported of a certificate by trails.
use Rattle.std.specs.Prelude.{ℕ, List, ◌++◌, codes}
use Rattle.cell_num.specs.Lines.{count_line}

-- its lemmas, and the gates whose half columns are filled
abbrev pub counts_text : ℕ → ℕ → List ℕ
counts_text lemmas filled = count_line (codes "lemmas ") lemmas ++ count_line (codes "filled ") filled
