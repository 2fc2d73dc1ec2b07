-- Drawings of a few bytes.
use Rattle.std.specs.Prelude.{ℕ, ◌<◌, ◌≤◌, List, All, length, sum_by}
use Rattle.cell_num.specs.declared.limits.TheConstants.{MOST_NETS}
use Rattle.box_geom.specs.declared.shape.Label.{Label}
use Rattle.box_geom.specs.declared.shape.Shapes.{Shapes}
use Rattle.cell_draw.specs.declared.cell.TheConstants.{MOST_SHAPES}
use Rattle.file_laws.specs.Size.{label_size}

-- a label whose name has at most 64 bytes
abbrev pub IsShort : Label → Type 0
IsShort label = length label.name ≤ 64

-- the bytes of labels
abbrev pub labels_size : List Label → ℕ
labels_size labels = sum_by (λ (l : Label). label_size l.name) labels

-- the name and the shapes of a cell, few and with short names
pub record IsSmall (name : List ℕ) (shapes : Shapes) : Type 0 where
  pub named : length name ≤ 64
  pub rects : length shapes.rects < MOST_SHAPES
  pub labels : length shapes.labels ≤ MOST_NETS
  pub short : All IsShort shapes.labels
