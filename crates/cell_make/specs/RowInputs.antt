-- What a row of cells is made of.
use Rattle.std.specs.Prelude.{ℕ, ◌≢◌, ◌≤◌, List, length, All, IsTrue}
use Rattle.cell_inputs.specs.declared.style.LeastRow.{LeastRow}
use Rattle.cell_num.specs.Names.{is_cell}
use Rattle.cell_num.specs.declared.limits.TheConstants.{MOST_BYTES}
use Rattle.row_abut.specs.Measures.{MOST_CELLS}
use Rattle.tech_file.specs.Technology.{Technology, IsTechnology}

-- the technology, the bytes of the SPICE file, the row's name, the names of its cells from the left, and which of its
-- least rows each cell is drawn with
pub record RowInputs : Type 0 where
  pub tech : Technology
  pub spice : List ℕ
  pub top : List ℕ
  pub names : List (List ℕ)
  pub choice : LeastRow

-- What holds of all of them: 1 to 16 cells, whose names are those of cells, as the row's is, which is none of theirs.
pub record AreRowInputs (r : RowInputs) : Type 0 where
  pub tech : IsTechnology r.tech
  pub few : length r.spice ≤ MOST_BYTES
  pub top : IsTrue (is_cell r.top)
  pub some : 1 ≤ length r.names
  pub most : length r.names ≤ MOST_CELLS
  pub names : All (λ name. IsTrue (is_cell name)) r.names
  pub apart : All (λ name. name ≢ r.top) r.names

abbrev pub row_inputs : Technology → List ℕ → List ℕ → List (List ℕ) → LeastRow → RowInputs
row_inputs tech spice top names choice =
    record { tech = tech; spice = spice; top = top; names = names; choice = choice }
