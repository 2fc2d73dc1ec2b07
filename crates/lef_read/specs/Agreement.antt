-- When a macro agrees with a drawing: its pins are labels, its ports lie on their nets, all other metal is obstructed.
use Rattle.std.specs.Prelude.{ℕ, ℤ, List, [], ◌∷◌, ◌++◌, map}
use Rattle.std.specs.List.{All, filter, flat_map}
use Rattle.box_geom.specs.Layers.{rects_on, same_layer}
use Rattle.box_geom.specs.Rectangle.{Rectangle, Holds, Covers}
use Rattle.box_geom.specs.declared.layer.Layer.{Layer}
use Rattle.box_geom.specs.declared.layer.Layer.TheVariants.{Metal1, Metal2}
use Rattle.box_geom.specs.declared.shape.Shapes.{Shapes}
use Rattle.scmos_rules.specs.declared.rules.Deck.TheVariants.{Plain}
use Rattle.net_extract.specs.Labels.{IsConductorAt, IsNamed}
use Rattle.net_extract.specs.Nets.{Site}
use Rattle.lef_read.specs.declared.cell.LefPin.{LefPin}
use Rattle.lef_read.specs.declared.cell.LefRect.{LefRect}
use Rattle.lef_read.specs.declared.cell.Macro.{Macro}

-- some net of the drawing has a label of the name
pub record IsLabel (shapes : Shapes) (name : List ℕ) : Type 0 where
  pub site : Site
  pub named : IsNamed Plain shapes name site

-- the cell is conductor of the layer, in the net that has a label of the name
pub record IsOnNet (shapes : Shapes) (name : List ℕ) (layer : Layer) (x y : ℤ) : Type 0 where
  pub site : Site
  pub conductor : IsConductorAt shapes.rects layer (record { x = x; y = y }) site
  pub named : IsNamed Plain shapes name site

-- a rectangle of a port, with the name of its pin
pub record Port : Type 0 where
  pub pin : List ℕ
  pub layer : Layer
  pub rect : Rectangle

abbrev pub port_of : List ℕ → LefRect → Port
port_of pin r = record { pin = pin; layer = r.layer; rect = r.rect }

abbrev pub ports_of_pin : LefPin → List Port
ports_of_pin pin = map (port_of pin.name) pin.ports

-- the rectangles of all ports, in the order of the pins
abbrev pub ports_of : List LefPin → List Port
ports_of pins = flat_map ports_of_pin pins

-- each cell of the port is on the net of its pin
abbrev pub IsOnItsNet : Shapes → Port → Type 0
IsOnItsNet shapes port = (x y : ℤ) → Holds port.rect x y → IsOnNet shapes port.pin port.layer x y

-- those of some rectangles of a macro that are on the layer
abbrev pub on_layer : Layer → List LefRect → List Rectangle
on_layer layer rects = map (λ (r : LefRect). r.rect) (filter (λ (r : LefRect). same_layer r.layer layer) rects)

-- the ports and obstructions of a macro on a layer
abbrev pub shown_on : Layer → Macro → List Rectangle
shown_on layer cell = flat_map (λ (p : LefPin). on_layer layer p.ports) cell.pins ++ on_layer layer cell.obstructions

-- each cell of the layer is in a port or an obstruction of it
abbrev pub IsShown : Shapes → Macro → Layer → Type 0
IsShown shapes cell layer = (x y : ℤ) → Covers (rects_on layer shapes.rects) x y → Covers (shown_on layer cell) x y

-- The layers that a macro shows.
abbrev pub metals : List Layer
metals = Metal1 ∷ Metal2 ∷ []

abbrev pub HasLabel : Shapes → LefPin → Type 0
HasLabel shapes pin = IsLabel shapes pin.name

-- The macro agrees with the drawing.
pub record Agrees (shapes : Shapes) (cell : Macro) : Type 0 where
  pub labels : All (HasLabel shapes) cell.pins
  pub ports : All (IsOnItsNet shapes) (ports_of cell.pins)
  pub rest : All (IsShown shapes cell) metals
