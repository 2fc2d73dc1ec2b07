-- The shapes of a layout, group by group, in the order in which they are written. "Toward the channel"
-- is upward in the N row and downward in the P row.
use Rattle.std.specs.Prelude.{ℕ, ◌+◌, ℤ, pos, ◌+ℤ◌, ◌-ℤ◌, List, [], ◌∷◌, ◌++◌, Option, Some, None}
use Rattle.std.specs.List.{flat_map}
use Rattle.cell_num.specs.declared.finger.Row.{Row}
use Rattle.cell_num.specs.declared.finger.Row.TheVariants.{P, N}
use Rattle.box_geom.specs.declared.shape.Shape.{Shape}
use Rattle.box_geom.specs.declared.layer.Layer.{Layer}
use Rattle.box_geom.specs.declared.layer.Layer.TheVariants.{Well, Active, PSelect, NSelect, Poly}
use Rattle.box_geom.specs.declared.layer.Layer.TheVariants.{Contact as ContactCut, Metal1, Via, Metal2}
use Rattle.cell_draw.specs.Measures.{HALF_CUT, HALF_GATE, HALF_PAD, HALF_METAL, END_CAP, WELL_PAST_ROW, WELL_PAST_SIDE}
use Rattle.cell_draw.specs.Measures.{SELECT_PAST_ROW, SELECT_PAST_SIDE, RAIL, RAIL_GAP, ROW_EDGE, LANDING}
use Rattle.cell_draw.specs.declared.layout.Frame.{Frame}
use Rattle.cell_draw.specs.declared.layout.Strip.{Strip}
use Rattle.cell_draw.specs.declared.layout.Contact.{Contact}
use Rattle.cell_draw.specs.declared.layout.Gate.{Gate}
use Rattle.cell_draw.specs.declared.layout.Bar.{Bar}
use Rattle.cell_draw.specs.declared.layout.Layout.{Layout}

abbrev pub box : Layer → ℤ → ℤ → ℤ → ℤ → Shape
box layer x1 y1 x2 y2 = record { layer = layer; rect = record { x1 = x1; y1 = y1; x2 = x2; y2 = y2 } }

-- the square around a point that reaches this far to each side
abbrev pub around : Layer → ℕ → ℤ → ℕ → Shape
around layer x y by = box layer (pos x -ℤ pos by) (y -ℤ pos by) (pos x +ℤ pos by) (y +ℤ pos by)

-- from low to high, this far to both sides of a line
abbrev pub upright : Layer → ℕ → ℕ → ℤ → ℤ → Shape
upright layer x by low high = box layer (pos x -ℤ pos by) low (pos x +ℤ pos by) high

abbrev pub cell_height : Frame → ℕ
cell_height f = f.p_edge + f.p_height + ROW_EDGE

abbrev pub well : Frame → Shape
well f =
    box Well (pos 0 -ℤ pos WELL_PAST_SIDE) (pos f.p_edge -ℤ pos WELL_PAST_ROW)
    (pos (f.width + WELL_PAST_SIDE)) (pos (cell_height f))

abbrev pub p_select : Frame → Shape
p_select f =
    box PSelect (pos 0 -ℤ pos SELECT_PAST_SIDE) (pos f.p_edge -ℤ pos SELECT_PAST_ROW)
    (pos (f.width + SELECT_PAST_SIDE)) (pos (f.p_edge + f.p_height + SELECT_PAST_ROW))

abbrev pub n_select : Frame → Shape
n_select f =
    box NSelect (pos 0 -ℤ pos SELECT_PAST_SIDE) (pos f.n_edge -ℤ pos (f.n_height + SELECT_PAST_ROW))
    (pos (f.width + SELECT_PAST_SIDE)) (pos (f.n_edge + SELECT_PAST_ROW))

abbrev pub gnd_rail : Frame → Shape
gnd_rail f = box Metal1 (pos 0) (pos 0) (pos f.width) (pos RAIL)

abbrev pub vdd_rail : Frame → Shape
vdd_rail f = box Metal1 (pos 0) (pos (f.p_edge + f.p_height + RAIL_GAP)) (pos f.width) (pos (cell_height f))

-- well, selects and rails
abbrev pub frame_shapes : Frame → List Shape
frame_shapes f = well f ∷ p_select f ∷ n_select f ∷ gnd_rail f ∷ vdd_rail f ∷ []

-- the lower and the upper end of a finger of this width
abbrev pub finger_low : Frame → Row → ℕ → ℤ
finger_low f N width = pos f.n_edge -ℤ pos width
finger_low f P width = pos f.p_edge

abbrev pub finger_high : Frame → Row → ℕ → ℤ
finger_high f N width = pos f.n_edge
finger_high f P width = pos (f.p_edge + width)

abbrev pub finger : Frame → Strip → Shape
finger f s = box Active (pos s.left) (finger_low f s.row s.width) (pos s.right) (finger_high f s.row s.width)

-- the centre of a node's contact, half a pad inside the row
abbrev pub centre : Frame → Row → ℤ
centre f N = pos f.n_edge -ℤ pos HALF_PAD
centre f P = pos (f.p_edge + HALF_PAD)

-- the centre of a signal's landing via, inside the channel
abbrev pub landing : Frame → Row → ℤ
landing f N = pos (f.n_edge + LANDING)
landing f P = pos f.p_edge -ℤ pos LANDING

-- A rail's strap goes from the rail's inner edge to past the centre. A signal's goes from past the centre, away from
-- the channel, to past the landing via's.
abbrev pub strap_low : Frame → Row → Option ℕ → ℤ
strap_low f N None = pos RAIL
strap_low f P None = centre f P -ℤ pos HALF_METAL
strap_low f N (Some reach) = centre f N -ℤ pos HALF_METAL
strap_low f P (Some reach) = landing f P -ℤ pos HALF_METAL

abbrev pub strap_high : Frame → Row → Option ℕ → ℤ
strap_high f N None = centre f N +ℤ pos HALF_METAL
strap_high f P None = pos (f.p_edge + f.p_height + RAIL_GAP)
strap_high f N (Some reach) = landing f N +ℤ pos HALF_METAL
strap_high f P (Some reach) = centre f P +ℤ pos HALF_METAL

abbrev pub strap : Frame → Row → ℕ → Option ℕ → Shape
strap f row x reach = upright Metal1 x HALF_METAL (strap_low f row reach) (strap_high f row reach)

-- metal2 of a signal, from past the landing via, toward the row, to past the track that it reaches
abbrev pub branch_low : Frame → Row → ℕ → ℤ
branch_low f N reach = landing f N -ℤ pos HALF_METAL
branch_low f P reach = pos reach -ℤ pos HALF_METAL

abbrev pub branch_high : Frame → Row → ℕ → ℤ
branch_high f N reach = pos reach +ℤ pos HALF_METAL
branch_high f P reach = landing f P +ℤ pos HALF_METAL

abbrev pub branch : Frame → Row → ℕ → ℕ → Shape
branch f row x reach = upright Metal2 x HALF_METAL (branch_low f row reach) (branch_high f row reach)

-- what a signal's contact has besides: the landing via and metal2
abbrev pub reach_shapes : Frame → Row → ℕ → Option ℕ → List Shape
reach_shapes f row x None = []
reach_shapes f row x (Some reach) = around Via x (landing f row) HALF_CUT ∷ branch f row x reach ∷ []

abbrev pub contact_shapes : Frame → Contact → List Shape
contact_shapes f c =
    around Active c.x (centre f c.row) HALF_PAD ∷ around ContactCut c.x (centre f c.row) HALF_CUT ∷
    strap f c.row c.x c.reach ∷ reach_shapes f c.row c.x c.reach

-- A gate's poly goes past each finger's outer end. Where a row has no finger it ends at the track, or without a trunk
-- past the other row's channel edge.
abbrev pub gate_low : Frame → Option ℕ → Option ℕ → ℤ
gate_low f (Some width) track = pos f.n_edge -ℤ pos (width + END_CAP)
gate_low f None (Some track) = pos track
gate_low f None None = pos f.p_edge -ℤ pos END_CAP

abbrev pub gate_high : Frame → Option ℕ → Option ℕ → ℤ
gate_high f (Some width) track = pos (f.p_edge + width + END_CAP)
gate_high f None (Some track) = pos track
gate_high f None None = pos (f.n_edge + END_CAP)

abbrev pub gate_strip : Frame → Gate → Shape
gate_strip f g = upright Poly g.x HALF_GATE (gate_low f g.n g.track) (gate_high f g.p g.track)

-- where the gate's net has a trunk: a pad on its track
abbrev pub pad_shapes : ℕ → Option ℕ → List Shape
pad_shapes x None = []
pad_shapes x (Some track) = around Poly x (pos track) HALF_PAD ∷ around ContactCut x (pos track) HALF_CUT ∷ []

abbrev pub gate_shapes : Frame → Gate → List Shape
gate_shapes f g = gate_strip f g ∷ pad_shapes g.x g.track

abbrev pub bar_metal : Bar → Shape
bar_metal b =
    box Metal1 (pos b.left -ℤ pos HALF_METAL) (pos b.y -ℤ pos HALF_METAL)
    (pos b.right +ℤ pos HALF_METAL) (pos b.y +ℤ pos HALF_METAL)

abbrev pub via_shapes : ℕ → ℕ → List Shape
via_shapes y x = around Via x (pos y) HALF_CUT ∷ []

abbrev pub bar_shapes : Bar → List Shape
bar_shapes b = bar_metal b ∷ flat_map (via_shapes b.y) b.vias

-- well, selects and rails; fingers; contacted places; gates; bars
abbrev pub shapes_of : Layout → List Shape
shapes_of l =
    frame_shapes l.frame
    ++ flat_map (λ s. finger l.frame s ∷ []) l.strips
    ++ flat_map (contact_shapes l.frame) l.contacts
    ++ flat_map (gate_shapes l.frame) l.gates
    ++ flat_map bar_shapes l.bars
