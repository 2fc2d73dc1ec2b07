-- The files of a cell or of a row of cells, by what their names begin with.
use Rattle.std.specs.Prelude.{ℕ, List, ◌++◌, codes}

abbrev pub gds_file : List ℕ → List ℕ → List ℕ × List ℕ
gds_file out bytes = (out ++ codes ".gds", bytes)

abbrev pub lef_file : List ℕ → List ℕ → List ℕ × List ℕ
lef_file out bytes = (out ++ codes ".lef", bytes)
