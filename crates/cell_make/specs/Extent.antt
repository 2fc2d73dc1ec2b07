-- How a made cell lies: its row on its lines, its drawing in its frame.
use Rattle.std.specs.Prelude.{ℕ, ◌≡◌, ◌≤◌, List}
use Rattle.row_model.specs.declared.column.Column.{Column}
use Rattle.row_place.specs.Places.{placement_of}
use Rattle.channel_route.specs.declared.routing.Routing.{Routing}
use Rattle.cell_draw.specs.declared.drawing.Drawing.{Drawing}
use Rattle.cell_draw.specs.declared.layout.Frame.{Frame}
use Rattle.cell_draw.specs.Bounds.{AreWithin}
use Rattle.cell_draw.specs.Frame.{frame_of}
use Rattle.cell_draw.specs.Framed.{IsFramed}
use Rattle.cell_draw.specs.Layouts.{width_of}
use Rattle.cell_inputs.specs.Inputs.{Inputs}
use Rattle.cell_make.specs.declared.drawn.TheConstants.{LEAST_WIDTH, MOST_WIDTH}
use Rattle.cell_make.specs.declared.outcome.Outcome.{Outcome}
use Rattle.cell_make.specs.declared.outcome.Outcome.TheVariants as outcome

-- the placement is that of its row
abbrev pub IsOnItsLines : Outcome → Type 0
IsOnItsLines (outcome.Made placement log routing drawn) = placement ≡ placement_of placement.row
IsOnItsLines (outcome.Cyclic placement log ring) = placement ≡ placement_of placement.row
IsOnItsLines (outcome.Tall placement log routing needed given) = placement ≡ placement_of placement.row
IsOnItsLines (outcome.Unfinished log proved) = Unit {0}

-- The drawing keeps to its frame, has room for a column, and is so narrow that sixteen of its kind lie side by side
-- within the coordinates of a file. No coordinate is beyond the limits of a drawing.
pub record HasExtent (frame : Frame) (xs : List ℕ) (drawing : Drawing) : Type 0 where
  pub framed : IsFramed frame xs drawing
  pub least : LEAST_WIDTH ≤ drawing.width
  pub most : drawing.width ≤ MOST_WIDTH
  pub within : AreWithin drawing.shapes

-- the frame of a row that is drawn on these lines
abbrev pub frame_in : Inputs → List Column → Routing → List ℕ → Frame
frame_in inputs row routing xs =
    frame_of row routing.tracks inputs.tech.height (width_of (placement_of row) xs)

-- a drawing lies so
abbrev pub LiesInFrame : Inputs → Outcome → Type 0
LiesInFrame inputs (outcome.Made placement log routing drawn) =
    HasExtent (frame_in inputs placement.row routing drawn.lines) drawn.lines drawn.drawing
LiesInFrame inputs (outcome.Cyclic placement log ring) = Unit {0}
LiesInFrame inputs (outcome.Tall placement log routing needed given) = Unit {0}
LiesInFrame inputs (outcome.Unfinished log proved) = Unit {0}
