-- When a text is an abstract of a drawing, and which drawings have the text of their ports as one.
use Rattle.std.specs.Prelude.{ℕ, ◌≡◌, ◌<◌, ◌≤◌, List, length, Ok}
use Rattle.std.specs.List.{All}
use Rattle.cell_num.specs.declared.finger.Fingers.{Fingers}
use Rattle.box_geom.specs.Layers.{AreWithinLimits}
use Rattle.box_geom.specs.declared.shape.Shapes.{Shapes}
use Rattle.spice_net.specs.declared.subckt.Subckt.{Subckt}
use Rattle.scmos_rules.specs.declared.rules.Deck.TheVariants.{Plain}
use Rattle.cell_draw.specs.Bounds.{AreWithin}
use Rattle.cell_draw.specs.Extracted.{ExtractsTo}
use Rattle.cell_draw.specs.Framed.{IsFramed}
use Rattle.cell_draw.specs.declared.cell.TheConstants.{MOST_SHAPES}
use Rattle.cell_draw.specs.declared.drawing.Drawing.{Drawing}
use Rattle.cell_draw.specs.declared.frame.TheConstants.{MOST_Y}
use Rattle.cell_draw.specs.declared.layout.Frame.{Frame}
use Rattle.lef_read.specs.Agreement.{Agrees}
use Rattle.lef_read.specs.Differences.{HasNetlist}
use Rattle.lef_read.specs.Macros.{macro_in}
use Rattle.lef_read.specs.declared.cell.Macro.{Macro}
use Rattle.lef_write.specs.Drawn.{AreAllMetal, AreOfNet}
use Rattle.lef_write.specs.Ports.{IsPort}
use Rattle.lef_write.specs.declared.port.Port.{Port}

-- The text is read as a macro of the name, a grid unit being `unit` nanometres; the shapes have a netlist, and the
-- macro agrees with them.
pub record IsAbstractOf (shapes : Shapes) (name : List ℕ) (unit : ℕ) (text : List ℕ) : Type 0 where
  pub cell : Macro
  pub read : macro_in text name unit ≡ Ok cell
  pub netlist : HasNetlist shapes
  pub agrees : Agrees shapes cell

-- the port is one of a pin
abbrev pub IsOfPin : Subckt → Port → Type 0
IsOfPin cell port = port.pin.0 < cell.pins.pins

-- The drawing of a cell, and ports of it. The drawing extracts to fingers, net by net; each port is a shape of metal1
-- in the net of its pin, and all other metal obstructs.
pub record HasPorts (cell : Subckt) (ports : List Port) (d : Drawing) : Type 0 where
  pub rects : length d.shapes.rects < MOST_SHAPES
  pub labels : length d.shapes.labels ≤ 256
  pub fingers : Fingers
  pub extracts : ExtractsTo Plain cell.nets fingers d.shapes
  pub pins : cell.pins.pins ≤ length cell.nets
  pub are : All (IsPort d.shapes.rects) ports
  pub own : All (IsOfPin cell) ports
  pub nets : (n : ℕ) → n < cell.pins.pins → AreOfNet Plain cell.nets ports d n
  pub rest : AreAllMetal ports d.shapes.rects

-- The drawing is in its frame, no wider than 900,000 grid units and no higher than drawings are.
pub record IsLowDrawing (f : Frame) (xs : List ℕ) (d : Drawing) : Type 0 where
  pub framed : IsFramed f xs d
  pub width : d.width ≤ 900000
  pub height : d.height ≤ MOST_Y
  pub within : AreWithin d.shapes
  pub limits : AreWithinLimits d.shapes.rects
