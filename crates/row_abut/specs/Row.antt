-- Cells side by side: where each of them is, and what the row shows.
use Rattle.std.specs.Prelude.{ℕ, pos, ◌+◌, ◌+ℤ◌, ◌||◌, not, Bool, List, [], ◌∷◌, ◌++◌, map, bytes_eq, codes, decimal}
use Rattle.std.specs.List.{filter, flat_map}
use Rattle.box_geom.specs.declared.shape.Label.{Label}
use Rattle.box_geom.specs.declared.shape.Shape.{Shape}
use Rattle.box_geom.specs.declared.shape.Shapes.{Shapes}
use Rattle.cell_draw.specs.Named.{name_of}
use Rattle.row_abut.specs.declared.cell.RowCell.{RowCell}

-- A cell of a row: how many cells are before it, and how wide these are together.
pub record Standing : Type 0 where
  pub number : ℕ
  pub x : ℕ
  pub cell : RowCell

-- the cells after `number` others, which are `x` wide together
abbrev pub standing_behind : ℕ → ℕ → List RowCell → List Standing
standing_behind number x [] = []
standing_behind number x (c ∷ cs) =
    record { number = number; x = x; cell = c } ∷ standing_behind (number + 1) (x + c.drawing.width) cs

abbrev pub standing : List RowCell → List Standing
standing cells = standing_behind 0 0 cells

-- moved to the right
abbrev pub shifted : ℕ → Shape → Shape
shifted by s = record {
  layer = s.layer;
  rect = record { x1 = s.rect.x1 +ℤ pos by; y1 = s.rect.y1; x2 = s.rect.x2 +ℤ pos by; y2 = s.rect.y2 };
}

abbrev pub shapes_at : Standing → List Shape
shapes_at s = map (shifted s.x) s.cell.drawing.shapes.rects

abbrev pub vdd_name : RowCell → List ℕ
vdd_name c = name_of c.nets c.pins.vdd

abbrev pub gnd_name : RowCell → List ℕ
gnd_name c = name_of c.nets c.pins.gnd

abbrev pub is_rail : RowCell → List ℕ → Bool
is_rail c name = bytes_eq name (vdd_name c) || bytes_eq name (gnd_name c)

-- the name in the row of a net that is no rail, in the cell of this number
abbrev pub numbered_name : ℕ → List ℕ → List ℕ
numbered_name number name = decimal number ++ codes "#" ++ name

-- the label in the cell of this number, which begins at x
abbrev pub label_at : ℕ → ℕ → Label → Label
label_at number x l = record { layer = l.layer; x = l.x +ℤ pos x; y = l.y; name = numbered_name number l.name }

-- the labels of all nets but the rails
abbrev pub labels_at : Standing → List Label
labels_at s =
    map (label_at s.number s.x) (filter (λ (l : Label). not (is_rail s.cell l.name)) s.cell.drawing.shapes.labels)

abbrev pub labels_named : List ℕ → RowCell → List Label
labels_named name c = filter (λ (l : Label). bytes_eq l.name name) c.drawing.shapes.labels

-- the labels of the rails are those of the first cell
abbrev pub rail_labels : List RowCell → List Label
rail_labels [] = []
rail_labels (c ∷ cs) = labels_named (vdd_name c) c ++ labels_named (gnd_name c) c

abbrev pub row_labels : List RowCell → List Label
row_labels cells = flat_map labels_at (standing cells) ++ rail_labels cells

-- all cells in one drawing
abbrev pub flat_row : List RowCell → Shapes
flat_row cells = record { rects = flat_map shapes_at (standing cells); labels = row_labels cells }
