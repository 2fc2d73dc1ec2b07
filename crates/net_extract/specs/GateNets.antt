-- Sets of cells as drawings of their own, whose nets are the classes of their cells; the boxes of gates.
use Rattle.std.specs.Prelude.{◌≡◌, ◌↔◌, ℕ, zero, suc, ◌==◌, ℤ, if◌then◌else◌, List, [], ◌∷◌, ◌++◌, get_or, length, fold}
use Rattle.std.specs.Int.{int_max, int_min}
use Rattle.std.specs.List.{Contains, AllZip}
use Rattle.box_geom.specs.Rectangle.{Rectangle, Holds}
use Rattle.box_geom.specs.declared.shape.Shape.{Shape}
use Rattle.box_geom.specs.declared.layer.Layer.TheVariants.{Well, Poly}
use Rattle.scmos_rules.specs.Layout.{On, Gate}
use Rattle.scmos_rules.specs.declared.rules.Deck.{Deck}
use Rattle.scmos_rules.specs.declared.rules.Deck.TheVariants.{Plain, Taps}
use Rattle.net_extract.specs.Devices.{IsFirstOdd, AreDevices}
use Rattle.net_extract.specs.Extraction.{IsDrawn}
use Rattle.net_extract.specs.Nets.{Site}
use Rattle.net_extract.specs.Connections.{AreWires, blank}
use Rattle.net_extract.specs.Pieces.{rect_of}
use Rattle.net_extract.specs.declared.fault.ExtractFault.{ExtractFault}
use Rattle.net_extract.specs.declared.fault.ExtractFault.TheVariants.{OddDevice, NoMemory}
use Rattle.net_extract.specs.declared.netlist.Drawn.{Drawn}
use Rattle.net_extract.specs.declared.piece.Piece.{Piece}
use Rattle.net_extract.specs.declared.connections.Wire.{Wire}

-- the shapes are poly and cover the cells of a set
pub record ArePolyOf (P : ℤ → ℤ → Type 0) (shapes : List Shape) : Type 0 where
  pub poly : (x y : ℤ) → On Poly shapes x y ↔ P x y
  pub only : (z : Shape) → Contains shapes z → z.layer ≡ Poly

-- the classes of a set's cells, as the nets of the set drawn in poly
pub record AreClassNets (P : ℤ → ℤ → Type 0) (wires : List Wire) (firsts : List Piece) : Type 0 where
  pub shapes : List Shape
  pub are : ArePolyOf P shapes
  pub nets : AreWires Plain shapes wires firsts

-- the classes of the gate cells of a drawing, and of its well cells
abbrev pub AreGateNets : List Shape → List Wire → List Piece → Type 0
AreGateNets s wires firsts = AreClassNets (Gate s) wires firsts

abbrev pub AreWellNets : List Shape → List Wire → List Piece → Type 0
AreWellNets s wires firsts = AreClassNets (On Well s) wires firsts

-- the wires of the classes of well cells
pub record HaveWellNets (s : List Shape) (wires : List Wire) : Type 0 where
  pub firsts : List Piece
  pub nets : AreWellNets s wires firsts

-- the same, where a deck ties taps
pub record AreWells (deck : Deck) (s : List Shape) (wires : List Wire) : Type 0 where
  pub nets : deck ≡ Taps → HaveWellNets s wires

-- the piece widened to a wire of the net
abbrev pub wider : ℕ → Piece → Wire → Piece
wider n p w =
    if w.net == n then record {
      low = int_min p.low w.piece.low;
      left = int_min p.left w.piece.left;
      kind = p.kind;
      top = int_max p.top w.piece.top;
      right = int_max p.right w.piece.right;
    } else p

-- the lower left corner of a piece
abbrev pub point_of : Piece → Piece
point_of p = record { low = p.low; left = p.left; kind = p.kind; top = p.low; right = p.left }

-- the bounds of all wires of net n
abbrev pub box_of : List Wire → List Piece → ℕ → Piece
box_of wires firsts n = fold (wider n) (point_of (get_or firsts n blank)) wires

abbrev pub boxes_below : List Wire → List Piece → ℕ → List Rectangle
boxes_below wires firsts zero = []
boxes_below wires firsts (suc k) = boxes_below wires firsts k ++ rect_of (box_of wires firsts k) ∷ []

-- all cells of the box are gate cells
pub record IsAllGate (s : List Shape) (box : Rectangle) : Type 0 where
  pub all : (x y : ℤ) → Holds box x y → Gate s x y

-- the boxes of all classes
abbrev pub boxes_of : List Wire → List Piece → List Rectangle
boxes_of wires firsts = boxes_below wires firsts (length firsts)

-- all classes of gates are devices, whose boxes are listed
pub record AreFound (deck : Deck) (s : List Shape) (firsts : List Site) (boxes : List Rectangle) (devices : List Drawn)
    : Type 0 where
  pub are : AreDevices deck s boxes
  pub drawn : AllZip (IsDrawn deck s firsts) boxes devices

abbrev pub IsOddFault : Deck → List Shape → ExtractFault → Type 0
IsOddFault deck s (OddDevice x y) = IsFirstOdd deck s x y
IsOddFault deck s NoMemory = Unit {0}
IsOddFault deck s _ = ⊥
