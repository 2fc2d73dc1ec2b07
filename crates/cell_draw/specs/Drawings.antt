-- The drawing of a layout: its shapes, and the names of its nets at its tags.
use Rattle.std.specs.Prelude.{ℕ, pos, ◌==◌, if◌then◌else◌, List, [], length, map, get_or}
use Rattle.std.specs.List.{flat_map}
use Rattle.cell_num.specs.declared.net.Pins.{Pins}
use Rattle.row_model.specs.declared.column.Column.{Column}
use Rattle.row_place.specs.declared.placement.Placement.{Placement}
use Rattle.row_place.specs.Units.{seats_of}
use Rattle.channel_route.specs.declared.routing.Routing.{Routing}
use Rattle.cell_draw.specs.declared.layout.Frame.{Frame}
use Rattle.cell_draw.specs.Frame.{needed_of, frame_of}
use Rattle.cell_draw.specs.Layouts.{strips_at, width_of, layout_of}
use Rattle.box_geom.specs.declared.shape.Label.{Label}
use Rattle.cell_draw.specs.declared.layout.Tag.{Tag}
use Rattle.cell_draw.specs.declared.layout.Layout.{Layout}
use Rattle.cell_draw.specs.declared.drawing.Drawing.{Drawing}
use Rattle.cell_draw.specs.Shapes.{shapes_of, cell_height}

abbrev pub label_of : List (List ℕ) → Tag → Label
label_of names tag = record { layer = tag.layer; x = pos tag.x; y = pos tag.y; name = get_or names tag.net.0 [] }

abbrev pub drawing_of : List (List ℕ) → Layout → Drawing
drawing_of names l = record {
  shapes = record { rects = shapes_of l; labels = map (label_of names) l.tags };
  width = l.frame.width;
  height = cell_height l.frame;
}

-- the drawing of a routed row on lines at these places, in a cell of this height
abbrev pub drawn_of : List (List ℕ) → Pins → Placement → Routing → List ℕ → ℕ → Drawing
drawn_of names pins placement routing xs height =
    drawing_of names (layout_of (length names) pins placement routing xs height)

-- well, selects, rails and fingers alone
abbrev pub base_of : Frame → Pins → Placement → List ℕ → Layout
base_of f pins placement xs = record {
  frame = f;
  gnd = pins.gnd;
  vdd = pins.vdd;
  strips = flat_map (strips_at xs) (seats_of placement.row);
  contacts = [];
  gates = [];
  bars = [];
  tags = [];
}

abbrev pub base_drawn_of : Pins → Placement → ℕ → List ℕ → ℕ → Drawing
base_drawn_of pins placement tracks xs height =
    drawing_of [] (base_of (frame_of placement.row tracks height (width_of placement xs)) pins placement xs)

-- the given height, or without one the least
abbrev pub height_given : List Column → ℕ → ℕ → ℕ
height_given row tracks height = if height == 0 then needed_of row tracks else height
