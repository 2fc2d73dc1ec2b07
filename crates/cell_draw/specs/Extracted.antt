-- What a drawing is as a circuit: net by net and device by device the fingers that it was drawn from.
use Rattle.std.specs.Prelude.{◌≢◌, ℤ, ◌⊎◌, ℕ, List, ◌++◌, length, IsPermutation}
use Rattle.std.specs.List.{AllPairs, AllZip, Any}
use Rattle.cell_num.specs.declared.finger.Finger.{Finger}
use Rattle.cell_num.specs.declared.finger.Fingers.{Fingers}
use Rattle.cell_num.specs.declared.net.Pins.{Pins}
use Rattle.cell_num.specs.Pins.{ArePins}
use Rattle.cell_num.specs.Fingers.{AreSound}
use Rattle.row_model.specs.declared.column.Column.{Column}
use Rattle.row_model.specs.Arrangement.{IsArrangement}
use Rattle.box_geom.specs.Rectangle.{Rectangle, Holds}
use Rattle.box_geom.specs.declared.shape.Shape.{Shape}
use Rattle.box_geom.specs.declared.shape.Shapes.{Shapes}
use Rattle.scmos_rules.specs.Layout.{Gate}
use Rattle.scmos_rules.specs.declared.rules.Deck.{Deck}
use Rattle.net_extract.specs.Nets.{Site}
use Rattle.net_extract.specs.Devices.{IsDevice}
use Rattle.net_extract.specs.Labels.{IsNamed}
use Rattle.cell_draw.specs.Measures.{GATE_LENGTH}
use Rattle.cell_draw.specs.Named.{name_of, AreNamed}

-- all classes of gate cells, each once
pub record AreGates (s : List Shape) (boxes : List Rectangle) : Type 0 where
  pub differ : AllPairs (λ (a b : Rectangle). a ≢ b) boxes
  pub all : (x y : ℤ) → Gate s x y → Any (λ (box : Rectangle). Holds box x y) boxes

-- The device of the box is the finger: of its row, its width and the length of a gate, on its nets. It may be
-- turned round.
pub record IsFingerAt (deck : Deck) (names : List (List ℕ)) (shapes : Shapes) (box : Rectangle) (f : Finger)
    : Type 0 where
  pub gate : Site
  pub left : Site
  pub right : Site
  pub is : IsDevice deck shapes.rects box f.row gate left right f.width GATE_LENGTH
  pub gate_net : IsNamed deck shapes (name_of names f.gate) gate
  pub ends :
      (IsNamed deck shapes (name_of names f.lo) left × IsNamed deck shapes (name_of names f.hi) right)
      ⊎ (IsNamed deck shapes (name_of names f.hi) left × IsNamed deck shapes (name_of names f.lo) right)

-- the devices of a drawing, one for each class of gate cells, are the fingers, net by net
pub record ExtractsTo (deck : Deck) (names : List (List ℕ)) (fingers : Fingers) (shapes : Shapes) : Type 0 where
  pub nets : AreNamed deck names shapes
  pub boxes : List Rectangle
  pub gates : AreGates shapes.rects boxes
  pub drawn : List Finger
  pub devices : AllZip (IsFingerAt deck names shapes) boxes drawn
  pub permuted : IsPermutation (fingers.p ++ fingers.n) drawn

-- the row arranges the fingers, which are sound for the names and the pins
pub record Arranges (names : List (List ℕ)) (pins : Pins) (row : List Column) (fingers : Fingers) : Type 0 where
  pub sound : AreSound names pins fingers
  pub arranged : IsArrangement row fingers

-- Whichever fingers the row arranges, the drawing extracts to them; the rails are two of the pins.
pub record ExtractsToRow (deck : Deck) (names : List (List ℕ)) (pins : Pins) (row : List Column) (shapes : Shapes)
    : Type 0 where
  pub to : ArePins (length names) pins → (fingers : Fingers) → Arranges names pins row fingers →
      ExtractsTo deck names fingers shapes
