-- A drawing with taps: at its first and at its last line one of the substrate over the lower rail, and one of the well
-- over the upper rail.
use Rattle.std.specs.Prelude.{ℕ, ◌≡◌, ◌+◌, ◌-◌, pos, ◌<ℤ◌, List, [], ◌∷◌, ◌++◌, map, if◌then◌else◌}
use Rattle.box_geom.specs.Layers.{same_layer}
use Rattle.box_geom.specs.declared.layer.Layer.{Layer}
use Rattle.box_geom.specs.declared.layer.Layer.TheVariants.{Well, Active, PSelect, NSelect, Contact}
use Rattle.box_geom.specs.declared.shape.Shape.{Shape}
use Rattle.cell_draw.specs.declared.drawing.Drawing.{Drawing}
use Rattle.cell_draw.specs.Measures.{HALF_CUT, HALF_PAD}
use Rattle.cell_draw.specs.Shapes.{box, around}
use Rattle.well_tap.specs.Measures.{HALF_SELECT, TAP_RISE, WELL_PAST_END}
use Rattle.well_tap.specs.Base.{first_line, last_line}

-- the well up to this height, and each other shape as it is
abbrev pub raised : ℕ → Shape → Shape
raised top s = if same_layer s.layer Well then box s.layer s.rect.x1 s.rect.y1 s.rect.x2 (pos top) else s

-- a tap: a pad of active, a select over it, and a contact
abbrev pub tap_at : Layer → ℕ → ℕ → List Shape
tap_at select x y =
    around Active x (pos y) HALF_PAD
    ∷ around select x (pos y) HALF_SELECT
    ∷ around Contact x (pos y) HALF_CUT
    ∷ []

-- the taps of a line in a cell of this height
abbrev pub taps_at : ℕ → ℕ → List Shape
taps_at height x = tap_at PSelect x TAP_RISE ++ tap_at NSelect x (height - TAP_RISE)

-- the shapes of a drawing, then the taps of both lines
abbrev pub tapped_shapes : ℕ → ℕ → ℕ → List Shape → List Shape
tapped_shapes height first last shapes =
    map (raised (height + WELL_PAST_END)) shapes
    ++ taps_at height first
    ++ taps_at height last

abbrev pub tapped : List ℕ → Drawing → Drawing
tapped xs d = record {
  shapes = record {
    rects = tapped_shapes d.height (first_line xs) (last_line xs) d.shapes.rects;
    labels = d.shapes.labels;
  };
  width = d.width;
  height = d.height;
}

-- the shape begins below this height, where it is of the well
pub record CanRise (top : ℕ) (s : Shape) : Type 0 where
  pub well : s.layer ≡ Well → s.rect.y1 <ℤ pos top
