-- Pins, ports and metal as they are looked up in the nets of a drawing; each answer may be out of memory instead.
use Rattle.std.specs.Prelude.{◌≡◌, ◌<◌, ◌==◌, ◌||◌, ◌&&◌, int_le, int_lt, if◌then◌else◌, ℕ, ℤ}
use Rattle.std.specs.Prelude.{Bool, List, [], get_or, length, map, Option, Some, None, is_some, not}
use Rattle.std.specs.List.{All}
use Rattle.box_geom.specs.Layers.{same_layer}
use Rattle.box_geom.specs.Rectangle.{IsRectangle, Holds}
use Rattle.box_geom.specs.Regions.{IsBlock, IsFirst}
use Rattle.box_geom.specs.declared.layer.Layer.{Layer}
use Rattle.box_geom.specs.declared.layer.Layer.TheVariants.{Metal1, Metal2}
use Rattle.box_geom.specs.declared.region.Place.{Place}
use Rattle.box_geom.specs.declared.shape.Shapes.{Shapes}
use Rattle.net_extract.specs.NetMaps.{NetMap, net_named, net_of}
use Rattle.net_extract.specs.declared.fault.ExtractFault.{ExtractFault}
use Rattle.net_extract.specs.declared.fault.ExtractFault.TheVariants as fault
use Rattle.lef_read.specs.declared.cell.LefPin.{LefPin}
use Rattle.lef_read.specs.declared.cell.LefRect.{LefRect}
use Rattle.lef_read.specs.declared.cell.Macro.{Macro}
use Rattle.lef_read.specs.Agreement.{Port}
use Rattle.lef_read.specs.Differences.{IsFirstNot, IsBare, IsBareMetal, IsFirstMetal}
use Rattle.lef_read.specs.declared.differ.Differ.{Differ}
use Rattle.lef_read.specs.declared.differ.Differ.TheVariants.{Extract, NoLabel, Port as PortOff, Bare, NoMemory}
use Rattle.lef_read.specs.declared.claim.Claim.{Claim}

abbrev pub differs_as : ExtractFault → Differ
differs_as fault.NoMemory = NoMemory
differs_as f = Extract f

-- no label has the name of the pin
abbrev pub lacks_net : NetMap → LefPin → Bool
lacks_net m pin = not (is_some (net_named m pin.name))

abbrev pub IsLabelLack : List ℕ → Differ → Type 0
IsLabelLack name (NoLabel n) = n ≡ name
IsLabelLack name NoMemory = Unit {0}
IsLabelLack name _ = ⊥

abbrev pub IsLackOf : Option LefPin → Differ → Type 0
IsLackOf (Some pin) d = IsLabelLack pin.name d
IsLackOf None d = ⊥

-- ---- ports with the nets of their pins

-- the net of the pin, which has the pin's name
pub record IsNetOf (m : NetMap) (pin : LefPin) (n : ℕ) : Type 0 where
  pub within : n < length m.names
  pub net : net_named m pin.name ≡ Some n
  pub name : get_or m.names n [] ≡ pin.name

-- where the pin has a net, this net has the pin's name
abbrev pub GoesByName : NetMap → LefPin → Type 0
GoesByName m pin = (n : ℕ) → net_named m pin.name ≡ Some n → n < length m.names → IsNetOf m pin n

abbrev pub name_of_claim : NetMap → Claim → List ℕ
name_of_claim m c = get_or m.names c.net []

abbrev pub port_shown : NetMap → Claim → Port
port_shown m c = record { pin = name_of_claim m c; layer = c.layer; rect = c.block }

abbrev pub ports_shown : NetMap → List Claim → List Port
ports_shown m claims = map (port_shown m) claims

-- the claim names a net by a label of it
pub record IsClaim (m : NetMap) (c : Claim) : Type 0 where
  pub within : c.net < length m.names
  pub net : net_named m (name_of_claim m c) ≡ Some c.net
  pub block : IsBlock c.block

-- the claims are ports with the nets of their pins
pub record AreClaims (m : NetMap) (ports : List Port) (claims : List Claim) : Type 0 where
  pub shown : ports_shown m claims ≡ ports
  pub all : All (IsClaim m) claims

-- the claim is on the layer, for the net
pub record IsOfNet (n : ℕ) (l : Layer) (c : Claim) : Type 0 where
  pub net : c.net ≡ n
  pub layer : c.layer ≡ l

abbrev pub is_alike : ℕ → Layer → Claim → Bool
is_alike net layer c = (c.net == net) && same_layer c.layer layer

abbrev pub HasBlock : Claim → Type 0
HasBlock c = IsBlock c.block

-- each cell of the port is on the net
abbrev pub Fits : NetMap → Claim → Type 0
Fits m c = (x y : ℤ) → Holds c.block x y → net_of m c.layer x y ≡ Some c.net

-- a cell of the port that is not on the net
abbrev pub IsAstray : NetMap → Claim → ℤ → ℤ → Type 0
IsAstray m c x y = Holds c.block x y × (net_of m c.layer x y ≡ Some c.net → ⊥)

-- the first claim that does not fit, by the name of its pin and its first cell that is astray
pub record IsMisfit (m : NetMap) (claims : List Claim) (name : List ℕ) (x y : ℤ) : Type 0 where
  pub claim : Claim
  pub first : IsFirstNot (Fits m) claims claim
  pub named : name_of_claim m claim ≡ name
  pub at : IsFirst (IsAstray m claim) x y

abbrev pub IsMisfitBy : NetMap → List Claim → Differ → Type 0
IsMisfitBy m claims (PortOff name x y) = IsMisfit m claims name x y
IsMisfitBy m claims NoMemory = Unit {0}
IsMisfitBy m claims _ = ⊥

-- the answer for a pin and a cell of one of its ports
abbrev pub IsPortOff : List ℕ → Place → Differ → Type 0
IsPortOff name place (PortOff n x y) = (n ≡ name) × (x ≡ place.x) × (y ≡ place.y)
IsPortOff name place NoMemory = Unit {0}
IsPortOff name place _ = ⊥

-- ---- metal
abbrev pub HasLimits : LefRect → Type 0
HasLimits r = IsRectangle r.rect

abbrev pub HavePortsLimits : LefPin → Type 0
HavePortsLimits p = All HasLimits p.ports

-- by y, then x
abbrev pub comes_before : Place → Place → Bool
comes_before p q = int_lt p.y q.y || (int_le p.y q.y && int_lt p.x q.x)

abbrev pub bare_as : Layer → Place → Differ
bare_as layer p = Bare layer p.x p.y

-- the first of two bare cells, of metal1 and of metal2
abbrev pub earlier_of : Place → Place → Differ
earlier_of one two = if comes_before two one then bare_as Metal2 two else bare_as Metal1 one

pub record IsBareAt (shapes : Shapes) (cell : Macro) (layer : Layer) (x y : ℤ) : Type 0 where
  pub at : IsFirst (IsBareMetal shapes cell) x y
  pub on : IsFirstMetal (λ l. IsBare shapes cell l x y) layer

abbrev pub IsBareBy : Shapes → Macro → Differ → Type 0
IsBareBy shapes cell (Bare layer x y) = IsBareAt shapes cell layer x y
IsBareBy shapes cell NoMemory = Unit {0}
IsBareBy shapes cell _ = ⊥
