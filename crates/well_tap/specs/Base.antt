-- The drawings that taps are added to: well, selects and rails of a frame, with room for taps over both rails.
use Rattle.std.specs.Prelude.{ℕ, ◌≡◌, ◌≢◌, ◌+◌, ◌-◌, ◌≤◌, List, length, pos, ◌+ℤ◌, ◌≤ℤ◌}
use Rattle.std.specs.List.{All}
use Rattle.box_geom.specs.Rectangle.{Rectangle}
use Rattle.box_geom.specs.declared.layer.Layer.TheVariants.{Well, PSelect, NSelect, Metal1}
use Rattle.box_geom.specs.declared.shape.Shape.{Shape}
use Rattle.row_compact.specs.Solution.{x_of}
use Rattle.row_compact.specs.Measures.{SIDE_SPACE}
use Rattle.cell_draw.specs.Measures.{ROW_EDGE, LEAST_ROW, LEAST_CHANNEL}
use Rattle.cell_draw.specs.declared.drawing.Drawing.{Drawing}
use Rattle.cell_draw.specs.declared.layout.Frame.{Frame}
use Rattle.cell_draw.specs.Framed.{BeginsWith}
use Rattle.cell_draw.specs.Shapes.{cell_height, frame_shapes}
use Rattle.well_tap.specs.Measures.{TAP_SPACE, TAP_CLEAR}

-- the positions of the first and the last line: taps are at these two
abbrev pub first_line : List ℕ → ℕ
first_line xs = x_of xs 0

abbrev pub last_line : List ℕ → ℕ
last_line xs = x_of xs (length xs - 1)

-- upward: a rail, its gap, the N row, the channel, the P row, a gap, a rail
pub record IsStacked (f : Frame) : Type 0 where
  pub n_edge : f.n_edge ≡ ROW_EDGE + f.n_height
  pub p_edge : f.n_edge + LEAST_CHANNEL ≤ f.p_edge
  pub n_row : LEAST_ROW ≤ f.n_height
  pub p_row : LEAST_ROW ≤ f.p_height

-- the cell is as wide as its lines ask, which leave room for two taps
pub record IsSpread (width first last : ℕ) : Type 0 where
  pub left : SIDE_SPACE ≤ first
  pub apart : first + TAP_SPACE ≤ last
  pub right : width ≡ last + SIDE_SPACE

-- clear of the taps over the rails
pub record IsClearOfTaps (f : Frame) (r : Rectangle) : Type 0 where
  pub low : pos TAP_CLEAR ≤ℤ r.y1
  pub high : (r.y2 +ℤ pos TAP_CLEAR) ≤ℤ pos (cell_height f)

-- no well and no select, and clear of the taps unless it is metal1
pub record IsBetweenTaps (f : Frame) (s : Shape) : Type 0 where
  pub no_well : s.layer ≢ Well
  pub no_p_select : s.layer ≢ PSelect
  pub no_n_select : s.layer ≢ NSelect
  pub clear : s.layer ≢ Metal1 → IsClearOfTaps f s.rect

-- A drawing on these lines in a frame. The places of its metal1 and its labels play no part.
pub record IsBase (xs : List ℕ) (d : Drawing) : Type 0 where
  pub frame : Frame
  pub stacked : IsStacked frame
  pub spread : IsSpread frame.width (first_line xs) (last_line xs)
  pub height : d.height ≡ cell_height frame
  pub begins : BeginsWith (frame_shapes frame) d.shapes.rects
  pub others : All (IsBetweenTaps frame) begins.others
