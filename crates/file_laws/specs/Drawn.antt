-- The macro that the abstract of a cell spells, and which cells it can be read back of.
use Rattle.std.specs.Prelude.{◌≡◌, ℕ, ◌<◌, ◌≤◌, ◌*◌, unsigned_abs, false, List, [], ◌∷◌, ◌++◌, length, map}
use Rattle.std.specs.List.{All, range_with_len}
use Rattle.box_geom.specs.Rectangle.{Rectangle, IsProper}
use Rattle.box_geom.specs.declared.layer.Layer.{Layer}
use Rattle.box_geom.specs.declared.layer.Layer.TheVariants.{Metal1, Metal2}
use Rattle.box_geom.specs.declared.shape.Shape.{Shape}
use Rattle.spice_net.specs.declared.subckt.Subckt.{Subckt}
use Rattle.cell_draw.specs.declared.drawing.Drawing.{Drawing}
use Rattle.lef_write.specs.Lef.{name_of}
use Rattle.cell_draw.specs.Layouts.{net_no}
use Rattle.lef_write.specs.Ports.{port_shapes, obstructions_on}
use Rattle.lef_write.specs.declared.port.Port.{Port}
use Rattle.lef_read.specs.Tokens.{ends_word}
use Rattle.lef_read.specs.declared.cell.LefPin.{LefPin}
use Rattle.lef_read.specs.declared.cell.LefRect.{LefRect}
use Rattle.lef_read.specs.declared.cell.Macro.{Macro}

abbrev pub on_layer : Layer → Shape → LefRect
on_layer layer s = record { layer = layer; rect = s.rect }

-- a pin, and the shapes at its ports
abbrev pub pin_drawn : Subckt → List Port → List Shape → ℕ → LefPin
pin_drawn cell ports rects n =
    record { name = name_of cell.nets n; ports = map (on_layer Metal1) (port_shapes ports rects (net_no n)) }

-- the pins of a cell with these ports, and all other metal of its drawing
abbrev pub macro_drawn : Subckt → List Port → Drawing → Macro
macro_drawn cell ports drawing = record {
  name = cell.name;
  pins = map (pin_drawn cell ports drawing.shapes.rects) (range_with_len 0 cell.pins.pins);
  obstructions = map (on_layer Metal1) (obstructions_on Metal1 ports drawing.shapes.rects)
      ++ map (on_layer Metal2) (obstructions_on Metal2 ports drawing.shapes.rects);
}

-- no byte ends a word: none is white space, `;`, `"` or `#`
abbrev pub IsInWord : List ℕ → Type 0
IsInWord [] = Unit {0}
IsInWord (b ∷ bs) = (ends_word b ≡ false) × IsInWord bs

pub record IsWord (w : List ℕ) : Type 0 where
  pub some : 0 < length w
  pub all : IsInWord w

-- n grid units of `unit` nanometres are at most 1,000,000 microns
abbrev pub IsMetric : ℕ → ℕ → Type 0
IsMetric unit n = n * unit ≤ 1000000000

-- the sides of a rectangle ascend, and each is within the limits of a text
pub record IsSpelled (unit : ℕ) (r : Rectangle) : Type 0 where
  pub proper : IsProper r
  pub x1 : IsMetric unit (unsigned_abs r.x1)
  pub y1 : IsMetric unit (unsigned_abs r.y1)
  pub x2 : IsMetric unit (unsigned_abs r.x2)
  pub y2 : IsMetric unit (unsigned_abs r.y2)

-- A grid unit has at least a nanometre; the names are words of a text, and all lengths are within its limits.
pub record IsReadable (cell : Subckt) (drawing : Drawing) (unit : ℕ) : Type 0 where
  pub least : 1 ≤ unit
  pub name : IsWord cell.name
  pub pins : (n : ℕ) → n < cell.pins.pins → IsWord (name_of cell.nets n)
  pub width : IsMetric unit drawing.width
  pub height : IsMetric unit drawing.height
  pub shapes : All (λ (s : Shape). IsSpelled unit s.rect) drawing.shapes.rects
