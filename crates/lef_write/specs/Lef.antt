-- The macro of a cell as the text of a LEF library, by the LEF/DEF 5.8 Language Reference. Numbers are in
-- microns.
use Rattle.std.specs.Prelude.{ℕ, ◌+◌, ◌*◌, ◌/◌, ◌%◌, ◌==◌, ◌&&◌, ℤ, pos, int_lt, unsigned_abs}
use Rattle.std.specs.Prelude.{List, [], ◌∷◌, ◌++◌, length, codes, decimal, slice_get, unwrap_or, if◌then◌else◌}
use Rattle.std.specs.List.{flat_map, range_with_len}
use Rattle.cell_num.specs.declared.net.NetNo.{NetNo}
use Rattle.cell_num.specs.declared.net.Pins.{Pins}
use Rattle.cell_num.specs.Lines.{text_line}
use Rattle.box_geom.specs.declared.layer.Layer.TheVariants.{Metal1, Metal2}
use Rattle.box_geom.specs.declared.shape.Shape.{Shape}
use Rattle.spice_net.specs.declared.subckt.Direction.{Direction}
use Rattle.spice_net.specs.declared.subckt.Direction.TheVariants.{Input, Output, Inout}
use Rattle.spice_net.specs.declared.subckt.Subckt.{Subckt}
use Rattle.channel_route.specs.declared.routing.Routing.{Routing}
use Rattle.cell_draw.specs.declared.drawing.Drawing.{Drawing}
use Rattle.cell_draw.specs.Layouts.{net_no}
use Rattle.lef_write.specs.declared.port.Port.{Port}
use Rattle.lef_write.specs.Ports.{ports_of, port_shapes, obstructions_on}

-- ---- numbers

-- a digit as a byte
abbrev pub digit : ℕ → ℕ
digit d = 48 + d

-- thousandths below one, in three digits
abbrev pub three_digits : ℕ → List ℕ
three_digits n = digit (n / 100) ∷ digit (n / 10 % 10) ∷ digit (n % 10) ∷ []

-- nanometres in microns, with exactly three decimals
unfoldable pub microns : ℕ → List ℕ
microns nm = decimal (nm / 1000) ++ codes "." ++ three_digits (nm % 1000)

abbrev pub minus_of : ℤ → List ℕ
minus_of z = if int_lt z (pos 0) then codes "-" else []

-- a coordinate in grid units of `unit` nanometres
unfoldable pub coordinate : ℕ → ℤ → List ℕ
coordinate unit z = minus_of z ++ microns (unsigned_abs z * unit)

-- ---- statements

unfoldable pub corner_text : ℕ → ℤ → ℤ → List ℕ
corner_text unit x y = coordinate unit x ++ codes " " ++ coordinate unit y

-- the lower left and the upper right corner of a rectangle
unfoldable pub rect_text : List ℕ → ℕ → Shape → List ℕ
rect_text indent unit s =
    indent
    ++ codes "RECT "
    ++ corner_text unit s.rect.x1 s.rect.y1
    ++ codes " "
    ++ corner_text unit s.rect.x2 s.rect.y2
    ++ codes " ;\n"

abbrev pub rects_text : List ℕ → ℕ → List Shape → List ℕ
rects_text indent unit shapes = flat_map (rect_text indent unit) shapes

unfoldable pub direction_text : Direction → List ℕ
direction_text Input = codes "    DIRECTION INPUT ;\n"
direction_text Output = codes "    DIRECTION OUTPUT ;\n"
direction_text Inout = codes "    DIRECTION INOUT ;\n"

unfoldable pub use_text : Pins → NetNo → List ℕ
use_text pins net =
    if net.0 == pins.vdd.0 then codes "    USE POWER ;\n" else
    if net.0 == pins.gnd.0 then codes "    USE GROUND ;\n" else
    codes "    USE SIGNAL ;\n"

-- ---- the macro

abbrev pub name_of : List (List ℕ) → ℕ → List ℕ
name_of names n = unwrap_or (slice_get names n) []

abbrev pub direction_of : List Direction → ℕ → Direction
direction_of directions n = unwrap_or (slice_get directions n) Inout

-- a port, which lies on metal1
unfoldable pub port_text : ℕ → List Shape → List ℕ
port_text unit shapes =
    codes "    PORT\n      LAYER metal1 ;\n" ++ rects_text (codes "      ") unit shapes ++ codes "    END\n"

-- a pin with its direction, its use and its port
unfoldable pub pin_text : Subckt → List Port → List Shape → ℕ → ℕ → List ℕ
pin_text cell ports rects unit n =
    text_line (codes "  PIN ") (name_of cell.nets n)
    ++ direction_text (direction_of cell.directions n)
    ++ use_text cell.pins (net_no n)
    ++ port_text unit (port_shapes ports rects (net_no n))
    ++ text_line (codes "  END ") (name_of cell.nets n)

abbrev pub pins_text : Subckt → List Port → List Shape → ℕ → List ℕ
pins_text cell ports rects unit = flat_map (pin_text cell ports rects unit) (range_with_len 0 cell.pins.pins)

-- a layer's obstructions, where it has any
unfoldable pub layer_text : List ℕ → ℕ → List Shape → List ℕ
layer_text layer unit shapes = if length shapes == 0 then [] else layer ++ rects_text (codes "    ") unit shapes

unfoldable pub metal1_text : ℕ → List Shape → List ℕ
metal1_text unit shapes = layer_text (codes "    LAYER metal1 ;\n") unit shapes

unfoldable pub metal2_text : ℕ → List Shape → List ℕ
metal2_text unit shapes = layer_text (codes "    LAYER metal2 ;\n") unit shapes

unfoldable pub block_text : ℕ → List Shape → List Shape → List ℕ
block_text unit first second = codes "  OBS\n" ++ metal1_text unit first ++ metal2_text unit second ++ codes "  END\n"

-- the obstructions, where there are any
unfoldable pub obstructions_text : ℕ → List Shape → List Shape → List ℕ
obstructions_text unit first second =
    if length first == 0 && length second == 0 then [] else block_text unit first second

unfoldable pub head_text : List ℕ
head_text =
    codes "VERSION 5.8 ;\nBUSBITCHARS \"[]\" ;\nDIVIDERCHAR \"/\" ;\nUNITS\n  DATABASE MICRONS 1000 ;\nEND UNITS\n"

unfoldable pub size_text : ℕ → ℕ → ℕ → List ℕ
size_text width height unit =
    codes "  SIZE " ++ microns (width * unit) ++ codes " BY " ++ microns (height * unit) ++ codes " ;\n"

-- a core cell with its lower left corner at the origin, which may be mirrored at both axes
unfoldable pub macro_text : List ℕ → ℕ → ℕ → ℕ → List ℕ
macro_text name width height unit =
    text_line (codes "MACRO ") name
    ++ codes "  CLASS CORE ;\n  ORIGIN 0.000 0.000 ;\n"
    ++ size_text width height unit
    ++ codes "  SYMMETRY X Y ;\n"

-- The library of one macro: the cell with these ports. A grid unit has `unit` nanometres.
abbrev pub library_text : Subckt → List Port → Drawing → ℕ → List ℕ
library_text cell ports drawing unit =
    head_text
    ++ macro_text cell.name drawing.width drawing.height unit
    ++ pins_text cell ports drawing.shapes.rects unit
    ++ obstructions_text unit
    (obstructions_on Metal1 ports drawing.shapes.rects) (obstructions_on Metal2 ports drawing.shapes.rects)
    ++ text_line (codes "END ") cell.name
    ++ codes "END LIBRARY\n"

-- the same with each pin's rail, or the trunks of its net, as its port
abbrev pub cell_text : Subckt → Routing → Drawing → ℕ → List ℕ
cell_text cell routing drawing unit =
    library_text cell (ports_of cell.pins routing.trunks drawing.shapes.rects) drawing unit
