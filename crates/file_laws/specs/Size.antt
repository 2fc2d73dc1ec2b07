-- How many bytes a library takes that holds one structure.
use Rattle.std.specs.Prelude.{ℕ, ◌+◌, ◌*◌, List, length, map, sum_by}
use Rattle.box_geom.specs.declared.shape.Label.{Label}
use Rattle.box_geom.specs.declared.shape.Shapes.{Shapes}
use Rattle.gds_write.specs.Written.{padded}

-- a label takes the bytes of its name, filled up to an even number, and those of its other records
abbrev pub label_size : List ℕ → ℕ
label_size name = 36 + length (padded name)

-- the records before and after the elements, 64 bytes a rectangle, and the labels
abbrev pub library_bytes : List ℕ → ℕ → List (List ℕ) → ℕ
library_bytes name rectangles labels = 106 + length (padded name) + 64 * rectangles + sum_by label_size labels

abbrev pub label_names : Shapes → List (List ℕ)
label_names shapes = map (λ (l : Label). l.name) shapes.labels
