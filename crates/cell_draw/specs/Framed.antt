-- What a drawing shows of its frame, whatever its row is: well, selects and rails come first, and all that follows
-- stays clear of them and of the cell's sides.
use Rattle.std.specs.Prelude.{ℕ, ◌≡◌, ◌≢◌, ◌+◌, ◌-◌, ◌≤◌, ◌⊎◌, ◌++◌, List, length, All, pos, ◌+ℤ◌, ◌≤ℤ◌}
use Rattle.box_geom.specs.declared.layer.Layer.{Layer}
use Rattle.box_geom.specs.declared.layer.Layer.TheVariants.{Well, Active, PSelect, NSelect, Metal1, Metal2}
use Rattle.box_geom.specs.declared.rect.Rect.{Rect}
use Rattle.box_geom.specs.declared.shape.Shape.{Shape}
use Rattle.box_geom.specs.declared.shape.Label.{Label}
use Rattle.row_compact.specs.Solution.{x_of}
use Rattle.row_compact.specs.Measures.{SIDE_SPACE}
use Rattle.cell_draw.specs.Measures.{END_CAP, RAIL, ROW_EDGE, LEAST_ROW, LEAST_CHANNEL}
use Rattle.cell_draw.specs.declared.layout.Frame.{Frame}
use Rattle.cell_draw.specs.declared.drawing.Drawing.{Drawing}
use Rattle.cell_draw.specs.Shapes.{cell_height, frame_shapes}

-- the list begins with the other one
pub record BeginsWith (first shapes : List Shape) : Type 0 where
  pub others : List Shape
  pub is : shapes ≡ first ++ others

-- The distance to the left and to the right side of the cell: at least half of the spacing that the rules ask on the
-- layer, so that cells may stand side by side.
abbrev pub side_of : Layer → ℕ
side_of Metal1 = 4
side_of Metal2 = 4
side_of _ = 3

-- The distance to the lower and to the upper end: metal1 goes up to the rails, poly, which comes next, past the
-- fingers.
abbrev pub end_of : Layer → ℕ
end_of Metal1 = RAIL
end_of _ = ROW_EDGE - END_CAP

-- at least `side` from both sides and at least `end` from both ends of the cell
pub record KeepsFrom (f : Frame) (side end : ℕ) (r : Rect) : Type 0 where
  pub left : pos side ≤ℤ r.x1
  pub right : (r.x2 +ℤ pos side) ≤ℤ pos f.width
  pub low : pos end ≤ℤ r.y1
  pub high : (r.y2 +ℤ pos end) ≤ℤ pos (cell_height f)

-- below the channel or above it
abbrev pub IsOutsideChannel : Frame → Rect → Type 0
IsOutsideChannel f r = (r.y2 ≤ℤ pos f.n_edge) ⊎ (pos f.p_edge ≤ℤ r.y1)

-- no well and no select, clear of the cell's sides and ends, and in one of the rows where it is active
pub record IsInFrame (f : Frame) (s : Shape) : Type 0 where
  pub no_well : s.layer ≢ Well
  pub no_p_select : s.layer ≢ PSelect
  pub no_n_select : s.layer ≢ NSelect
  pub clear : KeepsFrom f (side_of s.layer) (end_of s.layer) s.rect
  pub active : s.layer ≡ Active → IsOutsideChannel f s.rect

-- between the first and the last place of a line
pub record IsLabelInFrame (f : Frame) (l : Label) : Type 0 where
  pub left : pos SIDE_SPACE ≤ℤ l.x
  pub right : (l.x +ℤ pos SIDE_SPACE) ≤ℤ pos f.width

-- A drawing on these lines, in this frame.
pub record IsFramed (f : Frame) (xs : List ℕ) (d : Drawing) : Type 0 where
  -- the first line keeps this distance from the left side, the last from the right side
  pub first : SIDE_SPACE ≤ x_of xs 0
  pub last : f.width ≡ x_of xs (length xs - 1) + SIDE_SPACE
  -- upward: a rail, its gap, the N row, the channel, the P row, a gap, a rail
  pub n_edge : f.n_edge ≡ ROW_EDGE + f.n_height
  pub p_edge : f.n_edge + LEAST_CHANNEL ≤ f.p_edge
  pub n_row : LEAST_ROW ≤ f.n_height
  pub p_row : LEAST_ROW ≤ f.p_height
  pub width : d.width ≡ f.width
  pub height : d.height ≡ f.p_edge + f.p_height + ROW_EDGE
  -- well, selects and rails, then the rest, and the labels
  pub frame : BeginsWith (frame_shapes f) d.shapes.rects
  pub others : All (IsInFrame f) frame.others
  pub labels : All (IsLabelInFrame f) d.shapes.labels
