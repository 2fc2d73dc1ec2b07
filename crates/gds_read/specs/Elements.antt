-- What the elements of a structure draw.
use Rattle.std.specs.Prelude.{ℕ, ◌+◌, ◌*◌, ◌==◌, not, is_some, ℤ, List, [], ◌∷◌, length, map, find, option_map}
use Rattle.std.specs.Prelude.{Option, Some, None, Result, Ok, Err, if◌then◌else◌}
use Rattle.box_geom.specs.declared.layer.Layer.{Layer}
use Rattle.box_geom.specs.declared.shape.Shapes.{Shapes}
use Rattle.gds_record.specs.declared.types.RecordType.{RecordType}
use Rattle.gds_record.specs.declared.types.RecordType.TheVariants as record_type
use Rattle.gds_record.specs.Layers.{layer_numbered}
use Rattle.gds_record.specs.Types.{number_of, type_numbered}
use Rattle.gds_record.specs.Records.{Item, items_from}
use Rattle.gds_record.specs.declared.record.GdsRec.{GdsRec}
use Rattle.gds_area.specs.declared.fault.GdsFault.{GdsFault}
use Rattle.gds_area.specs.declared.fault.GdsFault.TheVariants as fault
use Rattle.gds_area.specs.declared.units.Grid.{Grid}
use Rattle.gds_area.specs.declared.area.Area.{Area}
use Rattle.gds_area.specs.declared.area.DrawContext.{DrawContext}
use Rattle.gds_area.specs.declared.path.Reach.{Reach}
use Rattle.gds_area.specs.declared.point.Point.{Point}
use Rattle.gds_read.specs.declared.label.Spot.{Spot}
use Rattle.gds_area.specs.declared.placement.Move.{Move}
use Rattle.gds_area.specs.declared.progress.Progress.{Progress}
use Rattle.gds_area.specs.Progress.{nothing_drawn, no_progress, rectangles, within_limit}
use Rattle.gds_area.specs.Units.{floor_units_of}
use Rattle.gds_read.specs.Structure.{is_type}
use Rattle.gds_area.specs.Points.{signed_at, points_of, has_slant, closed}
use Rattle.gds_area.specs.EvenOdd.{boundary_rectangles}
use Rattle.gds_area.specs.Paths.{width_of, past_ends, path_areas}
use Rattle.gds_area.specs.Areas.{area_of, shapes_of}
use Rattle.cell_num.specs.Steps.{◌>>=◌, require}
use Rattle.gds_read.specs.Grammar.{element_begun}

-- the records before the first one of a type
abbrev pub until : RecordType → List Item → List Item
until kind [] = []
until kind (r ∷ rs) = if is_type kind r then [] else r ∷ until kind rs

-- an element: the record that begins it, of what type, and the records inside it
pub record Element : Type 0 where
  pub kind : RecordType
  pub at : ℕ
  pub inside : List Item

-- the records inside the element that a record of some bytes begins, and the element
abbrev pub inside_of : List ℕ → GdsRec → List Item
inside_of bytes rec = until record_type.EndEl (items_from bytes rec.next)

abbrev pub element_of : List ℕ → GdsRec → RecordType → Element
element_of bytes rec kind = record { kind = kind; at = rec.at; inside = inside_of bytes rec }

-- the element that a record of the table begins, if it begins one
abbrev pub with_element : Item → List Item → Option RecordType → List Element → List Element
with_element r rs None rest = rest
with_element r rs (Some kind) rest =
    if is_some (element_begun kind)
    then record { kind = kind; at = r.at; inside = until record_type.EndEl rs } ∷ rest
    else rest

-- the elements of the structure whose name the records follow
abbrev pub elements_of : List Item → List Element
elements_of [] = []
elements_of (r ∷ rs) =
    if is_type record_type.EndStr r then [] else with_element r rs (type_numbered r.code) (elements_of rs)

-- the data of the first record of a type, and its place
abbrev pub data_of : Option Item → List ℕ
data_of None = []
data_of (Some r) = r.content

abbrev pub place_of : Option Item → ℕ
place_of None = 0
place_of (Some r) = r.at

abbrev pub content_of : RecordType → List Item → List ℕ
content_of kind records = data_of (find (is_type kind) records)

-- a two-byte integer
abbrev pub short_of : List ℕ → ℕ
short_of (high ∷ low ∷ []) = 256 * high + low
short_of _ = 0

-- the element's layer, where the drawing has it
abbrev pub layer_of : List Item → Option Layer
layer_of inside = layer_numbered (short_of (content_of record_type.Layer inside))

-- the place of an element's points
abbrev pub xy_place : List Item → ℕ
xy_place inside = place_of (find (is_type record_type.Xy) inside)

abbrev pub xy_of : List Item → List ℕ
xy_of inside = content_of record_type.Xy inside

-- ---- boundaries and paths

-- A boundary is taken round to its first point.
unfoldable pub boundary_areas : ℕ → List Point → Result (List Area) GdsFault
boundary_areas at points =
    require (not (has_slant (closed points))) (fault.Slant at) >>= λ _. Ok (map area_of (boundary_rectangles points))

-- half the width of a path
abbrev pub half_of : List Item → ℕ
half_of inside = width_of (content_of record_type.Width inside)

abbrev pub form_fault : List Item → GdsFault
form_fault inside = fault.Kind (place_of (find (is_type record_type.PathType) inside)) (number_of record_type.PathType)

abbrev pub reach_told : ℕ → GdsFault → Option ℕ → Result Reach GdsFault
reach_told half f None = Err f
reach_told half f (Some ends) = Ok (record { half = half; ends = ends })

-- half its width, and how far it goes past its outer points; its ends have one of two forms
abbrev pub reach_of : List Item → Result Reach GdsFault
reach_of inside =
    reach_told (half_of inside) (form_fault inside)
    (past_ends (half_of inside) (short_of (content_of record_type.PathType inside)))

unfoldable pub areas_along : ℕ → Reach → List Point → Result (List Area) GdsFault
areas_along at reach points =
    require (not (has_slant points)) (fault.Slant at) >>= λ _. Ok (path_areas reach.half reach.ends points)

-- The form of the ends is looked at first.
abbrev pub path_areas_of : ℕ → List Item → Result (List Area) GdsFault
path_areas_of at inside = reach_of inside >>= λ reach. areas_along at reach (points_of (xy_of inside))

-- the areas of an element, in halves of a file unit; its points are at a place
abbrev pub areas_of : ℕ → List Item → RecordType → Result (List Area) GdsFault
areas_of at inside record_type.Boundary = boundary_areas at (points_of (xy_of inside))
areas_of at inside record_type.Path = path_areas_of at inside
areas_of at inside _ = Ok []

abbrev pub draw_context_of : Grid → Move → List Item → Layer → DrawContext
draw_context_of grid stands inside on = record { grid = grid; stands = stands; layer = on; at = xy_place inside }

-- What is on a layer of the drawing is drawn.
abbrev pub drawn_on : ℕ → ℕ → Option DrawContext → Result (List Area) GdsFault → Result Progress GdsFault
drawn_on at count None areas = Ok no_progress
drawn_on at count (Some draw_context) areas =
    areas >>= λ list.
    shapes_of draw_context list >>= λ rects.
    within_limit at count (rectangles rects)

abbrev pub draw_context_for : Grid → Move → List Item → Option DrawContext
draw_context_for grid stands inside = option_map (draw_context_of grid stands inside) (layer_of inside)

-- ---- labels

abbrev pub spot_at : Layer → Option ℤ → Option ℤ → Option Spot
spot_at on (Some x) (Some y) = Some (record { layer = on; x = x; y = y })
spot_at on _ _ = None

-- the one point of a text
abbrev pub spot_of : Grid → Layer → List ℕ → Option Spot
spot_of grid on xy =
    if length xy == 8
    then spot_at on (floor_units_of grid (signed_at 0 xy)) (floor_units_of grid (signed_at 4 xy))
    else None

abbrev pub spot_on : ℕ → Option Spot → Result (Option Spot) GdsFault
spot_on at None = Err (fault.Grid at)
spot_on at (Some spot) = Ok (Some spot)

abbrev pub text_on : Grid → ℕ → List ℕ → Option Layer → Result (Option Spot) GdsFault
text_on grid xy_at xy None = Ok None
text_on grid xy_at xy (Some on) = spot_on xy_at (spot_of grid on xy)

-- the place of a text
abbrev pub text_spot : Grid → Element → Result (Option Spot) GdsFault
text_spot grid e = text_on grid (xy_place e.inside) (xy_of e.inside) (layer_of e.inside)

abbrev pub with_label : List ℕ → Option Spot → Shapes
with_label name None = nothing_drawn
with_label name (Some spot) = record {
  rects = [];
  labels = record { layer = spot.layer; x = spot.x; y = spot.y; name = name } ∷ [];
}
