-- What a library that is read back asks of its shapes.
use Rattle.std.specs.Prelude.{ℕ, ◌≤◌, List, All, Contains, length}
use Rattle.box_geom.specs.declared.shape.Label.{Label}
use Rattle.box_geom.specs.declared.shape.Shapes.{Shapes}
use Rattle.box_geom.specs.Layers.{AreWithinLimits}
use Rattle.cell_draw.specs.Bounds.{AreWithin}

-- at most 1,000,000 rectangles, no coordinate beyond the limits, and labels that are names of nets
pub record AreWritable (names : List (List ℕ)) (shapes : Shapes) : Type 0 where
  pub few : length shapes.rects ≤ 1000000
  pub limits : AreWithinLimits shapes.rects
  pub within : AreWithin shapes
  pub named : All (λ (l : Label). Contains names l.name) shapes.labels
