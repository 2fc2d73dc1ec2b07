-- A cell that a call asks for, and a row of cells.
use Rattle.std.specs.Prelude.{ℕ, ◌&&◌, not, nat_le, Bool, List, map, length, Option, String, string_bytes, bytes_eq}
use Rattle.std.specs.List.{list_all}
use Rattle.std.specs.declared.alloc.Global.{Global}
use Rattle.cell_num.specs.Names.{is_cell, lowered}
use Rattle.cell_inputs.specs.declared.style.LeastRow.{LeastRow}

-- the words as bytes
abbrev pub texts : List (String Global) → List (List ℕ)
texts words = map string_bytes words

-- the technology's file, none for the plain one, the SPICE file, and the cell's name
pub record CellAsked : Type 0 where
  pub tech : Option (List ℕ)
  pub spice : List ℕ
  pub cell : List ℕ

-- the technology's file, none for the plain one, the SPICE file, the row's name, the names of its cells from the left,
-- and which of its least rows each cell is drawn with
pub record RowAsked : Type 0 where
  pub tech : Option (List ℕ)
  pub spice : List ℕ
  pub top : List ℕ
  pub cells : List (List ℕ)
  pub choice : LeastRow

-- the cells of a row: 2 to 16
abbrev pub are_row_cells : List (List ℕ) → Bool
are_row_cells cells = nat_le 2 (length cells) && nat_le (length cells) 16 && list_all is_cell cells

-- the name of a row: that of a cell, and in lower case none of these
abbrev pub is_top : List ℕ → List (List ℕ) → Bool
is_top top cells = is_cell top && list_all (λ cell. not (bytes_eq (lowered cell) (lowered top))) cells
