-- What a drawing is extracted to, and why it is refused.
use Rattle.std.specs.Prelude.{◌≡◌, ℕ, ◌≤◌, ◌<◌, ℤ, Result, Err, List, length, ◌⊎◌}
use Rattle.std.specs.List.{AllZip}
use Rattle.box_geom.specs.Rectangle.{Rectangle}
use Rattle.box_geom.specs.declared.shape.Shape.{Shape}
use Rattle.box_geom.specs.declared.shape.Shapes.{Shapes}
use Rattle.scmos_rules.specs.declared.rules.Deck.{Deck}
use Rattle.net_extract.specs.Nets.{Site}
use Rattle.net_extract.specs.Numbering.{AreNets, IsInNet}
use Rattle.net_extract.specs.Devices.{IsDevice, IsOdd, IsFirstOdd, AreDevices}
use Rattle.net_extract.specs.declared.naming.NetLabel.{NetLabel}
use Rattle.net_extract.specs.Labels.{AreNetLabels, IsFirstStray}
use Rattle.net_extract.specs.Naming.{IsAgreed, IsShort, IsSplit, names_of}
use Rattle.net_extract.specs.declared.netlist.Drawn.{Drawn}
use Rattle.net_extract.specs.declared.netlist.Netlist.{Netlist}
use Rattle.net_extract.specs.declared.fault.ExtractFault.{ExtractFault}
use Rattle.net_extract.specs.declared.fault.ExtractFault.TheVariants.{TooMany, OddDevice, Stray, Short, Split, NoMemory}

-- at most 10,000 rectangles and 2,000 labels
pub record AreFew (shapes : Shapes) : Type 0 where
  pub rects : length shapes.rects ≤ 10000
  pub labels : length shapes.labels ≤ 2000

-- the device of a box, its nets by their numbers
pub record IsDrawn (deck : Deck) (s : List Shape) (firsts : List Site) (box : Rectangle) (d : Drawn) : Type 0 where
  pub gate : Site
  pub left : Site
  pub right : Site
  pub is : IsDevice deck s box d.row gate left right d.width d.length
  pub gate_net : IsInNet deck s firsts d.gate gate
  pub sides :
      (IsInNet deck s firsts d.lo left × IsInNet deck s firsts d.hi right)
      ⊎ (IsInNet deck s firsts d.lo right × IsInNet deck s firsts d.hi left)
  pub order : d.lo ≤ d.hi

-- the nets of a drawing and the labels in them
pub record IsLabelled (deck : Deck) (shapes : Shapes) (firsts : List Site) (held : List NetLabel) : Type 0 where
  pub nets : AreNets deck shapes.rects firsts
  pub labels : AreNetLabels deck shapes.rects firsts shapes.labels held

-- the netlist of a drawing
pub record Extracts (deck : Deck) (shapes : Shapes) (netlist : Netlist) : Type 0 where
  pub few : AreFew shapes
  pub firsts : List Site
  pub held : List NetLabel
  pub labelled : IsLabelled deck shapes firsts held
  pub agreed : IsAgreed held (length firsts)
  pub names : netlist.names ≡ names_of held (length firsts)
  pub boxes : List Rectangle
  pub devices : AreDevices deck shapes.rects boxes
  pub drawn : AllZip (IsDrawn deck shapes.rects firsts) boxes netlist.devices

-- ---- refusals, each where those before it do not come
pub record IsTooMany (shapes : Shapes) (count : ℕ) : Type 0 where
  pub which :
      ((10000 < length shapes.rects) × (count ≡ length shapes.rects))
      ⊎ ((length shapes.rects ≤ 10000) × (2000 < length shapes.labels) × (count ≡ length shapes.labels))

pub record IsOddDevice (deck : Deck) (shapes : Shapes) (x y : ℤ) : Type 0 where
  pub few : AreFew shapes
  pub odd : IsFirstOdd deck shapes.rects x y

-- few shapes, and every class of gate cells is a device
pub record AreRegular (deck : Deck) (shapes : Shapes) : Type 0 where
  pub few : AreFew shapes
  pub none_odd : (x y : ℤ) → IsOdd deck shapes.rects x y → ⊥

pub record IsStrayLabel (deck : Deck) (shapes : Shapes) (name : List ℕ) : Type 0 where
  pub regular : AreRegular deck shapes
  pub stray : IsFirstStray shapes.rects shapes.labels name

pub record IsShortDrawing (deck : Deck) (shapes : Shapes) (one other : List ℕ) : Type 0 where
  pub regular : AreRegular deck shapes
  pub firsts : List Site
  pub held : List NetLabel
  pub labelled : IsLabelled deck shapes firsts held
  pub short : IsShort held (length firsts) one other

pub record IsSplitDrawing (deck : Deck) (shapes : Shapes) (name : List ℕ) : Type 0 where
  pub regular : AreRegular deck shapes
  pub firsts : List Site
  pub held : List NetLabel
  pub labelled : IsLabelled deck shapes firsts held
  pub split : IsSplit held (length firsts) name

abbrev pub ExtractRefused : Deck → Shapes → ExtractFault → Type 0
ExtractRefused deck shapes (TooMany count) = IsTooMany shapes count
ExtractRefused deck shapes (OddDevice x y) = IsOddDevice deck shapes x y
ExtractRefused deck shapes (Stray name) = IsStrayLabel deck shapes name
ExtractRefused deck shapes (Short one other) = IsShortDrawing deck shapes one other
ExtractRefused deck shapes (Split name) = IsSplitDrawing deck shapes name
ExtractRefused deck shapes NoMemory = Unit {0}

-- where a drawing has too many shapes, the answer says so
abbrev pub SaysTooMany : {X : Type 0} → Shapes → Result X ExtractFault → Type 0
SaysTooMany shapes answer = (count : ℕ) → IsTooMany shapes count → answer ≡ Err (TooMany count)
