-- The cells of a row.
use Rattle.std.specs.Prelude.{ℕ, ◌≡◌, ◌≤◌, ◌-◌, ℤ, pos, neg_ℤ, ◌≤ℤ◌, List, length, take, drop, IsTrue}
use Rattle.std.specs.List.{All}
use Rattle.box_geom.specs.declared.shape.Label.{Label}
use Rattle.box_geom.specs.declared.shape.Shape.{Shape}
use Rattle.cell_num.specs.Names.{is_name}
use Rattle.cell_num.specs.Pins.{ArePins}
use Rattle.scmos_rules.specs.Rules.{Obeys}
use Rattle.scmos_rules.specs.declared.rules.Deck.TheVariants.{Plain}
use Rattle.cell_draw.specs.Framed.{IsFramed}
use Rattle.cell_draw.specs.declared.layout.Frame.{Frame}
use Rattle.row_abut.specs.declared.cell.RowCell.{RowCell}
use Rattle.row_abut.specs.Measures.{MOST_REACH, LEAST_INNER}
use Rattle.row_abut.specs.Row.{vdd_name, gnd_name}

-- a place along one axis
pub record IsInReach (z : ℤ) : Type 0 where
  pub least : neg_ℤ (pos MOST_REACH) ≤ℤ z
  pub most : z ≤ℤ pos MOST_REACH

pub record IsShapeInReach (s : Shape) : Type 0 where
  pub x1 : IsInReach s.rect.x1
  pub y1 : IsInReach s.rect.y1
  pub x2 : IsInReach s.rect.x2
  pub y2 : IsInReach s.rect.y2

pub record IsLabelInReach (l : Label) : Type 0 where
  pub x : IsInReach l.x
  pub y : IsInReach l.y

-- its nets have names, the rails among them, and its measures are within reach
pub record IsRowCell (c : RowCell) : Type 0 where
  pub names : All (λ name. IsTrue (is_name name)) c.nets
  pub pins : ArePins (length c.nets) c.pins
  pub width : c.drawing.width ≤ MOST_REACH
  pub n : c.edges.n ≤ MOST_REACH
  pub p : c.edges.p ≤ MOST_REACH
  pub rects : All IsShapeInReach c.drawing.shapes.rects
  pub labels : All IsLabelInReach c.drawing.shapes.labels

-- the rails of both have the same names
pub record HaveSameRails (a b : RowCell) : Type 0 where
  pub vdd : vdd_name a ≡ vdd_name b
  pub gnd : gnd_name a ≡ gnd_name b

-- two cells of one name are one
pub record AreOneByName (a b : RowCell) : Type 0 where
  pub one : a.name ≡ b.name → a ≡ b

-- a drawing in a frame, whose channel edges are the cell's; it obeys the rules
pub record IsDrawn (c : RowCell) : Type 0 where
  pub frame : Frame
  pub xs : List ℕ
  pub framed : IsFramed frame xs c.drawing
  pub n : c.edges.n ≡ frame.n_edge
  pub p : c.edges.p ≡ frame.p_edge
  pub obeys : Obeys Plain c.drawing.shapes.rects

-- all but the first and the last
abbrev pub inner_cells : List RowCell → List RowCell
inner_cells cells = drop 1 (take (length cells - 1) cells)

-- All are drawn. A cell 19 wide keeps its two neighbours apart: active and a well by rule 2.3.
pub record AreDrawn (cells : List RowCell) : Type 0 where
  pub each : All IsDrawn cells
  pub inner : All (λ (c : RowCell). LEAST_INNER ≤ c.drawing.width) (inner_cells cells)
