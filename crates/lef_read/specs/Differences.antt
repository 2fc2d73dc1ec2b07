-- The first thing in which a macro differs from a drawing.
use Rattle.std.specs.Prelude.{◌≡◌, ℕ, ℤ, List, ◌∷◌, ◌++◌, ◌⊎◌}
use Rattle.std.specs.List.{All}
use Rattle.box_geom.specs.Layers.{rects_on}
use Rattle.box_geom.specs.Rectangle.{Holds}
use Rattle.box_geom.specs.Regions.{Bare, IsFirst}
use Rattle.box_geom.specs.declared.layer.Layer.{Layer}
use Rattle.box_geom.specs.declared.layer.Layer.TheVariants.{Metal1, Metal2}
use Rattle.box_geom.specs.declared.shape.Shapes.{Shapes}
use Rattle.scmos_rules.specs.declared.rules.Deck.TheVariants.{Plain}
use Rattle.net_extract.specs.Extraction.{ExtractRefused}
use Rattle.net_extract.specs.declared.fault.ExtractFault.{ExtractFault}
use Rattle.net_extract.specs.declared.fault.ExtractFault.TheVariants as fault
use Rattle.lef_read.specs.declared.cell.LefPin.{LefPin}
use Rattle.lef_read.specs.declared.cell.Macro.{Macro}
use Rattle.lef_read.specs.Agreement.{IsOnNet, IsOnItsNet, HasLabel, Port, ports_of, shown_on}
use Rattle.lef_read.specs.declared.differ.Differ.{Differ}
use Rattle.lef_read.specs.declared.differ.Differ.TheVariants.{Extract, NoLabel, NoMemory}
use Rattle.lef_read.specs.declared.differ.Differ.TheVariants.{Port as PortOff, Bare as BareMetal}

-- Extraction refuses the drawing only where memory runs out.
abbrev pub HasNetlist : Shapes → Type 0
HasNetlist shapes = (f : ExtractFault) → ExtractRefused Plain shapes f → f ≡ fault.NoMemory

-- the first item of a list of which something does not hold
pub record IsFirstNot {X : Type 0} (P : X → Type 0) (xs : List X) (x : X) : Type 0 where
  pub before : List X
  pub after : List X
  pub split : xs ≡ before ++ x ∷ after
  pub fine : All P before
  pub fails : P x → ⊥

-- the first pin whose name is no label
pub record LacksLabel (shapes : Shapes) (cell : Macro) (name : List ℕ) : Type 0 where
  pub netlist : HasNetlist shapes
  pub pin : LefPin
  pub first : IsFirstNot (HasLabel shapes) cell.pins pin
  pub named : pin.name ≡ name

-- a cell of the port that is not on the net of its pin
abbrev pub IsOff : Shapes → Port → ℤ → ℤ → Type 0
IsOff shapes port x y = Holds port.rect x y × (IsOnNet shapes port.pin port.layer x y → ⊥)

-- the first port that is not on the net of its pin, and its first cell that is not; each pin is a label
pub record HasPortOff (shapes : Shapes) (cell : Macro) (name : List ℕ) (x y : ℤ) : Type 0 where
  pub netlist : HasNetlist shapes
  pub labels : All (HasLabel shapes) cell.pins
  pub port : Port
  pub first : IsFirstNot (IsOnItsNet shapes) (ports_of cell.pins) port
  pub named : port.pin ≡ name
  pub at : IsFirst (IsOff shapes port) x y

-- a cell of the layer that lies in no port and no obstruction of it
abbrev pub IsBare : Shapes → Macro → Layer → ℤ → ℤ → Type 0
IsBare shapes cell layer = Bare (rects_on layer shapes.rects) (shown_on layer cell)

abbrev pub IsBareMetal : Shapes → Macro → ℤ → ℤ → Type 0
IsBareMetal shapes cell x y = IsBare shapes cell Metal1 x y ⊎ IsBare shapes cell Metal2 x y

-- metal1 counts before metal2
abbrev pub IsFirstMetal : (Layer → Type 0) → Layer → Type 0
IsFirstMetal P Metal1 = P Metal1
IsFirstMetal P Metal2 = (P Metal1 → ⊥) × P Metal2
IsFirstMetal P _ = ⊥

-- the first bare cell of metal by y, x and layer; all before is as it has to be
pub record HasBareMetal (shapes : Shapes) (cell : Macro) (layer : Layer) (x y : ℤ) : Type 0 where
  pub netlist : HasNetlist shapes
  pub labels : All (HasLabel shapes) cell.pins
  pub ports : All (IsOnItsNet shapes) (ports_of cell.pins)
  pub at : IsFirst (IsBareMetal shapes cell) x y
  pub on : IsFirstMetal (λ l. IsBare shapes cell l x y) layer

-- what an answer says
abbrev pub DiffersBy : Shapes → Macro → Differ → Type 0
DiffersBy shapes cell (Extract f) = (f ≡ fault.NoMemory → ⊥) × ExtractRefused Plain shapes f
DiffersBy shapes cell (NoLabel name) = LacksLabel shapes cell name
DiffersBy shapes cell (PortOff name x y) = HasPortOff shapes cell name x y
DiffersBy shapes cell (BareMetal layer x y) = HasBareMetal shapes cell layer x y
DiffersBy shapes cell NoMemory = Unit {0}
