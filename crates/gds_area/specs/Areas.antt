-- What an element draws is first a list of areas in halves of a file unit, so that half a width is a
-- whole number of them. In the end each is a rectangle of whole grid units.
use Rattle.std.specs.Prelude.{◌≡◌, Bool, true, false, ℤ, pos, ◌*ℤ◌}
use Rattle.std.specs.Prelude.{List, [], ◌∷◌, ◌++◌, length, nat_lt, if◌then◌else◌, Option, Some, None, Result, Ok, Err}
use Rattle.box_geom.specs.Rectangle.{Rectangle}
use Rattle.box_geom.specs.declared.shape.Shape.{Shape}
use Rattle.gds_area.specs.declared.fault.GdsFault.{GdsFault}
use Rattle.gds_area.specs.declared.fault.GdsFault.TheVariants as fault
use Rattle.gds_area.specs.declared.units.Grid.{Grid}
use Rattle.gds_area.specs.declared.units.Ends.{Ends}
use Rattle.gds_area.specs.declared.area.Span.{Span}
use Rattle.gds_area.specs.declared.area.Area.{Area}
use Rattle.gds_area.specs.declared.area.DrawContext.{DrawContext}
use Rattle.gds_area.specs.Moves.{moved_area}
use Rattle.gds_area.specs.Units.{whole_units_of, ends_of}
use Rattle.cell_num.specs.Steps.{◌>>=◌}

-- two file units are in halves of one
abbrev pub span_of : ℤ → ℤ → Span
span_of low high = record { low = pos 2 *ℤ low; high = pos 2 *ℤ high }

unfoldable pub area_of : Rectangle → Area
area_of r = record { across = span_of r.x1 r.x2; upward = span_of r.y1 r.y2 }

-- two coordinates in halves of a file unit as the ends of a side in grid units
abbrev pub side_of : Grid → Span → Option Ends
side_of grid span = ends_of (whole_units_of grid span.low) (whole_units_of grid span.high)

abbrev pub between : Option Ends → Option Ends → Option Rectangle
between (Some x) (Some y) = Some (record { x1 = x.low; y1 = y.low; x2 = x.high; y2 = y.high })
between _ _ = None

unfoldable pub rectangle_of : Grid → Area → Option Rectangle
rectangle_of grid area = between (side_of grid area.across) (side_of grid area.upward)

abbrev pub shape_on : DrawContext → Option Rectangle → Result Shape GdsFault
shape_on draw_context None = Err (fault.Grid draw_context.at)
shape_on draw_context (Some rect) = Ok (record { layer = draw_context.layer; rect = rect })

-- the corners of the area, moved to its place, are whole numbers of grid units within the limits of a drawing
abbrev pub shape_of : DrawContext → Area → Result Shape GdsFault
shape_of draw_context area =
    shape_on draw_context (rectangle_of draw_context.grid (moved_area draw_context.stands area))

abbrev pub shapes_of : DrawContext → List Area → Result (List Shape) GdsFault
shapes_of draw_context [] = Ok []
shapes_of draw_context (a ∷ xs) = shape_of draw_context a >>= λ s. shapes_of draw_context xs >>= λ ss. Ok (s ∷ ss)

-- there is one at least
abbrev pub has_some : {A : Type 0} → List A → Bool
has_some [] = false
has_some (x ∷ xs) = true

-- ---- one area after the other, for the functions that draw

-- One rectangle above the limit shows that there are too many; no more are kept.
unfoldable pub with_kept : List Shape → Shape → List Shape
with_kept rects s = if nat_lt 1000000 (length rects) then rects else rects ++ s ∷ []

abbrev pub put : DrawContext → List Shape → List Area → Result (List Shape) GdsFault
put draw_context rects [] = Ok rects
put draw_context rects (a ∷ xs) = shape_of draw_context a >>= λ s. put draw_context (with_kept rects s) xs

-- the areas of an element one after the other, or its fault
abbrev pub put_all : DrawContext → List Shape → Result (List Area) GdsFault → Result (List Shape) GdsFault
put_all draw_context rects told = told >>= put draw_context rects

-- Memory may run out anywhere; else the fault is that of what is put.
abbrev pub Faults : GdsFault → Result (List Shape) GdsFault → Type 0
Faults fault.NoMemory told = Unit {0}
Faults f told = told ≡ Err f

-- the rectangles are what is put, or the fault is
abbrev pub Puts : {A : Type 0} → Result A GdsFault → List Shape → Result (List Shape) GdsFault → Type 0
Puts (Ok _) new told = told ≡ Ok new
Puts (Err f) new told = Faults f told
