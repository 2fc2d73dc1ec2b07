-- The structures of a row: one for each different cell, and one that refers to all cells in their places.
use Rattle.std.specs.Prelude.{ℕ, pos, Bool, List, [], ◌∷◌, ◌++◌, map, bytes_eq, if◌then◌else◌}
use Rattle.std.specs.List.{list_any}
use Rattle.gds_write.specs.Written.{cell_of}
use Rattle.gds_write.specs.declared.library.Ref.{Ref}
use Rattle.gds_write.specs.declared.library.Struct.{Struct}
use Rattle.row_abut.specs.declared.cell.RowCell.{RowCell}
use Rattle.row_abut.specs.Row.{Standing, standing, row_labels}

abbrev pub has_name : List RowCell → List ℕ → Bool
has_name cells name = list_any (λ (c : RowCell). bytes_eq c.name name) cells

-- the cells whose names no cell before them has, nor one of `before`
abbrev pub first_uses : List RowCell → List RowCell → List RowCell
first_uses before [] = []
first_uses before (c ∷ cs) =
    if has_name before c.name then first_uses (before ++ c ∷ []) cs else c ∷ first_uses (before ++ c ∷ []) cs

abbrev pub struct_of : RowCell → Struct
struct_of c = cell_of c.name c.drawing.shapes

-- the structure of this name at x
abbrev pub ref_to : List ℕ → ℕ → Ref
ref_to name x = record { name = name; x = pos x; y = pos 0 }

abbrev pub ref_at : Standing → Ref
ref_at s = ref_to s.cell.name s.x

-- no rectangles of its own, the labels of the row, and a reference for each cell
abbrev pub top_of : List ℕ → List RowCell → Struct
top_of top cells = record {
  name = top;
  shapes = record { rects = []; labels = row_labels cells };
  refs = map ref_at (standing cells);
}

abbrev pub abutted : List ℕ → List RowCell → List Struct
abutted top cells = map struct_of (first_uses [] cells) ++ top_of top cells ∷ []
