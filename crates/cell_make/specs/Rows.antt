-- What drawing a row results in: its drawing, a cycle of its nets, or a height that is not enough.
use Rattle.std.specs.Prelude.{ℕ, ◌≡◌, ◌<◌, List, length}
use Rattle.row_model.specs.declared.column.Column.{Column}
use Rattle.row_place.specs.declared.placement.Placement.{Placement}
use Rattle.row_place.specs.Places.{placement_of}
use Rattle.channel_route.specs.declared.ring.Ring.{Ring}
use Rattle.channel_route.specs.declared.routing.Routing.{Routing}
use Rattle.cell_draw.specs.declared.cell.TheConstants.{MOST_SHAPES}
use Rattle.cell_draw.specs.Frame.{IsTooTall, needed_of}
use Rattle.cell_inputs.specs.declared.style.Style.{Style}
use Rattle.cell_inputs.specs.Inputs.{Inputs, unit_nm}
use Rattle.gds_read.specs.RoundTrip.{IsReadable}
use Rattle.cell_make.specs.declared.draw_outcome.DrawOutcome.{DrawOutcome}
use Rattle.cell_make.specs.declared.draw_outcome.DrawOutcome.TheVariants as came
use Rattle.cell_make.specs.Extent.{HasExtent, frame_in}
use Rattle.cell_make.specs.Making.{IsDrawnAs, IsRouted, drawing_in, final_of}
use Rattle.cell_make.specs.Style.{IsToldRing, tapped_by}

pub data DrawAnswer : Type 0 where
  RowDrawn : (routing : Routing) (xs : List ℕ) → DrawAnswer
  RowCyclic : (ring : Ring) → DrawAnswer
  RowTall : (routing : Routing) → DrawAnswer

-- The row is drawn on these tracks and lines, with this said of its routing; or nets of it are above each other in
-- this cycle, as it is reported; or this is said of its routing, and it needs more than the height.
abbrev pub DrawsAs : (Routing → Type 0) → Style → Inputs → List Column → DrawAnswer → Type 0
DrawsAs Routed style inputs row (RowDrawn routing xs) = IsDrawnAs (Routed routing) style inputs row routing xs
DrawsAs Routed style inputs row (RowCyclic ring) = IsToldRing style.wiring (placement_of row) inputs.cell.pins ring
DrawsAs Routed style inputs row (RowTall routing) =
    Routed routing × IsTooTall row routing.tracks inputs.tech.height

-- its channel is routed legally and tightly
abbrev pub Draws : Style → Inputs → List Column → DrawAnswer → Type 0
Draws style inputs row answer = DrawsAs (IsRouted style inputs row) style inputs row answer

-- ---- as the code answers it

abbrev pub placement_in : DrawOutcome → Placement
placement_in (came.Drawn placement routing drawn) = placement
placement_in (came.Cyclic placement ring) = placement
placement_in (came.Tall placement routing needed given) = placement

abbrev pub row_answer : DrawOutcome → DrawAnswer
row_answer (came.Drawn placement routing drawn) = RowDrawn routing drawn.lines
row_answer (came.Cyclic placement ring) = RowCyclic ring
row_answer (came.Tall placement routing needed given) = RowTall routing

-- The drawing is that of the row, its routing and its lines, with taps where the style asks for them, and the heights
-- are the one that the row needs and the one of the technology.
abbrev pub IsRowDrawnBy : Style → Inputs → List Column → DrawOutcome → Type 0
IsRowDrawnBy style inputs row (came.Drawn placement routing drawn) =
    (drawn.drawing ≡ drawing_in inputs row routing drawn.lines)
    × (drawn.tapped ≡ tapped_by style.taps drawn.drawing drawn.lines)
IsRowDrawnBy style inputs row (came.Cyclic placement ring) = Unit {0}
IsRowDrawnBy style inputs row (came.Tall placement routing needed given) =
    (needed ≡ needed_of row routing.tracks) × (given ≡ inputs.tech.height)

pub record ComesAs (Routed : Routing → Type 0) (style : Style) (inputs : Inputs) (row : List Column) (of : DrawOutcome)
    : Type 0 where
  pub placed : placement_in of ≡ placement_of row
  pub draws : DrawsAs Routed style inputs row (row_answer of)
  pub exact : IsRowDrawnBy style inputs row of

-- with its channel routed legally and tightly
abbrev pub ComesFrom : Style → Inputs → List Column → DrawOutcome → Type 0
ComesFrom style inputs row of = ComesAs (IsRouted style inputs row) style inputs row of

-- it is this routing
abbrev pub IsThat : Routing → Routing → Type 0
IsThat routing other = other ≡ routing

-- it is no cycle
abbrev pub IsWired : DrawOutcome → Type 0
IsWired (came.Drawn placement routing drawn) = Unit {0}
IsWired (came.Cyclic placement ring) = ⊥
IsWired (came.Tall placement routing needed given) = Unit {0}

-- a drawing can be written as a library that is read back, and without taps is small enough for an abstract
abbrev pub CanRowBeWritten : Inputs → DrawOutcome → Type 0
CanRowBeWritten inputs (came.Drawn placement routing drawn) =
    IsReadable inputs.cell.name (final_of drawn).shapes (unit_nm inputs.tech)
    × (length drawn.drawing.shapes.rects < MOST_SHAPES)
CanRowBeWritten inputs (came.Cyclic placement ring) = Unit {0}
CanRowBeWritten inputs (came.Tall placement routing needed given) = Unit {0}

-- a drawing keeps to its frame
abbrev pub LiesRowInFrame : Inputs → DrawOutcome → Type 0
LiesRowInFrame inputs (came.Drawn placement routing drawn) =
    HasExtent (frame_in inputs placement.row routing drawn.lines) drawn.lines drawn.drawing
LiesRowInFrame inputs (came.Cyclic placement ring) = Unit {0}
LiesRowInFrame inputs (came.Tall placement routing needed given) = Unit {0}
