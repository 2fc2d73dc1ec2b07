-- A layout with small numbers is drawn within the limits, which a four-byte integer in nanometres reaches.
use Rattle.std.proofs.Common.{ℕ, ◌≤◌, ◌≡◌, ℤ, pos, ◌*ℤ◌, negsuc, unsigned_abs, List, [], ◌∷◌, ◌++◌, Option, Some, None, map, sym, subst, arith, All, FitsSigned}
use Rattle.std.specs.Int.{w32}
use Rattle.std.specs.List.{flat_map}
use Rattle.std.proofs.lemmas.Int.{ints, fits_signed_mul}
use Rattle.std.proofs.lemmas.List.Elements.{All-nil, All-cons, All-append}
use Rattle.cell_num.specs.declared.finger.Row.{Row}
use Rattle.cell_num.specs.declared.finger.Row.TheVariants.{P, N}
use Rattle.cell_num.proofs.Lists.{all_flat, all_map, all_one, all_two}
use Rattle.box_geom.specs.declared.layer.Layer.{Layer}
use Rattle.box_geom.specs.declared.layer.Layer.TheVariants.{Active, Via, Poly, Contact as ContactCut}
use Rattle.box_geom.specs.declared.shape.Shape.{Shape}
use Rattle.box_geom.specs.declared.shape.Label.{Label}
use Rattle.cell_draw.specs.Bounds.{IsWithin, IsShapeWithin, IsLabelWithin, AreWithin}
use Rattle.cell_draw.specs.Drawings.{label_of}
use Rattle.cell_draw.specs.declared.layout.Frame.{Frame}
use Rattle.cell_draw.specs.declared.layout.Strip.{Strip}
use Rattle.cell_draw.specs.declared.layout.Contact.{Contact}
use Rattle.cell_draw.specs.declared.layout.Gate.{Gate}
use Rattle.cell_draw.specs.declared.layout.Bar.{Bar}
use Rattle.cell_draw.specs.declared.layout.Tag.{Tag}
use Rattle.cell_draw.specs.declared.layout.Layout.{Layout}
use Rattle.cell_draw.specs.Laid.{row_height, IsWidth}
use Rattle.cell_draw.specs.Shapes.{box, around, well, p_select, n_select, gnd_rail, vdd_rail, frame_shapes, finger, finger_low, finger_high, centre, landing, strap, branch, reach_shapes, contact_shapes, gate_low, gate_high, gate_strip, pad_shapes, gate_shapes, bar_metal, via_shapes, bar_shapes, shapes_of}
use Rattle.cell_draw.specs.Small.{IsSmallFrame, IsReach, IsSmallStrip, IsSmallContact, IsSmallGate, IsSmallBar, IsSmallTag, IsSmall}

frame_within : (f : Frame) → IsSmallFrame f → All IsShapeWithin (frame_shapes f)
frame_within f s =
    All-append IsShapeWithin (well f ∷ p_select f ∷ []) (n_select f ∷ gnd_rail f ∷ vdd_rail f ∷ [])
    (all_two IsShapeWithin (well f) (p_select f) (omega (arith, ints)) (omega (arith, ints)))
    (All-append IsShapeWithin (n_select f ∷ []) (gnd_rail f ∷ vdd_rail f ∷ []) (all_one IsShapeWithin (n_select f) (omega (arith, ints)))
    (all_two IsShapeWithin (gnd_rail f) (vdd_rail f) (omega (arith, ints)) (omega (arith, ints))))

finger_within : (f : Frame) → IsSmallFrame f → (row : Row) (s : Strip) → IsSmallStrip f s → s.width ≤ row_height f row → IsShapeWithin (box Active (pos s.left) (finger_low f row s.width) (pos s.right) (finger_high f row s.width))
finger_within f small N s is most = omega (arith, ints)
finger_within f small P s is most = omega (arith, ints)

reach_within : (f : Frame) → IsSmallFrame f → (row : Row) (x : ℕ) (o : Option ℕ) → x ≤ 1000000 → IsReach f o → All IsShapeWithin (reach_shapes f row x o)
reach_within f small row x None right r = All-nil IsShapeWithin
reach_within f small N x (Some y) right r = all_two IsShapeWithin (around Via x (landing f N) 2) (branch f N x y) (omega (arith, ints)) (omega (arith, ints))
reach_within f small P x (Some y) right r = all_two IsShapeWithin (around Via x (landing f P) 2) (branch f P x y) (omega (arith, ints)) (omega (arith, ints))

strap_within : (f : Frame) → IsSmallFrame f → (row : Row) (x : ℕ) (o : Option ℕ) → x ≤ 1000000 → IsShapeWithin (strap f row x o)
strap_within f small N x None right = omega (arith, ints)
strap_within f small N x (Some y) right = omega (arith, ints)
strap_within f small P x None right = omega (arith, ints)
strap_within f small P x (Some y) right = omega (arith, ints)

centre_within : (f : Frame) → IsSmallFrame f → (row : Row) (layer : Layer) (x by : ℕ) → x ≤ 1000000 → by ≤ 5 → IsShapeWithin (around layer x (centre f row) by)
centre_within f small N layer x by right few = omega (arith, ints)
centre_within f small P layer x by right few = omega (arith, ints)

contact_within : (f : Frame) → IsSmallFrame f → (c : Contact) → IsSmallContact f c → All IsShapeWithin (contact_shapes f c)
contact_within f small c is =
    All-append IsShapeWithin (around Active c.x (centre f c.row) 5 ∷ around ContactCut c.x (centre f c.row) 2 ∷ []) (strap f c.row c.x c.reach ∷ reach_shapes f c.row c.x c.reach)
    (all_two IsShapeWithin (around Active c.x (centre f c.row) 5) (around ContactCut c.x (centre f c.row) 2) (centre_within f small c.row Active c.x 5 is.right (omega arith)) (centre_within f small c.row ContactCut c.x 2 is.right (omega arith)))
    (All-cons IsShapeWithin (strap f c.row c.x c.reach) (reach_shapes f c.row c.x c.reach) (strap_within f small c.row c.x c.reach is.right) (reach_within f small c.row c.x c.reach is.right is.reach))

low_within : (f : Frame) → IsSmallFrame f → (n track : Option ℕ) → IsWidth f.n_height n → IsReach f track → IsWithin (gate_low f n track)
low_within f small (Some v) track n t = omega (arith, ints)
low_within f small None (Some y) n t = omega (arith, ints)
low_within f small None None n t = omega (arith, ints)

high_within : (f : Frame) → IsSmallFrame f → (p track : Option ℕ) → IsWidth f.p_height p → IsReach f track → IsWithin (gate_high f p track)
high_within f small (Some v) track p t = omega (arith, ints)
high_within f small None (Some y) p t = omega (arith, ints)
high_within f small None None p t = omega (arith, ints)

pads_within : (f : Frame) → IsSmallFrame f → (x : ℕ) (track : Option ℕ) → x ≤ 1000000 → IsReach f track → All IsShapeWithin (pad_shapes x track)
pads_within f small x None right t = All-nil IsShapeWithin
pads_within f small x (Some y) right t = all_two IsShapeWithin (around Poly x (pos y) 5) (around ContactCut x (pos y) 2) (omega (arith, ints)) (omega (arith, ints))

gate_within : (f : Frame) → IsSmallFrame f → (g : Gate) → IsSmallGate f g → All IsShapeWithin (gate_shapes f g)
gate_within f small g is =
    let right = is.right in
    All-cons IsShapeWithin (gate_strip f g) (pad_shapes g.x g.track)
    (record { x1 = omega (arith, ints, right); y1 = low_within f small g.n g.track is.n is.track; x2 = omega (arith, ints, right); y2 = high_within f small g.p g.track is.p is.track })
    (pads_within f small g.x g.track right is.track)

via_within : (y x : ℕ) → y ≤ 200000 → x ≤ 1000000 → All IsShapeWithin (via_shapes y x)
via_within y x top right = all_one IsShapeWithin (around Via x (pos y) 2) (omega (arith, ints))

bar_within : (f : Frame) → IsSmallFrame f → (b : Bar) → IsSmallBar f b → All IsShapeWithin (bar_shapes b)
bar_within f small b is =
    let height = is.height in
    let ascends = is.ascends in
    let right = is.right in
    All-cons IsShapeWithin (bar_metal b) (flat_map (via_shapes b.y) b.vias) (omega (arith, ints))
    (all_flat (λ x. x ≤ 1000000) IsShapeWithin (via_shapes b.y) b.vias (λ x h. via_within b.y x (omega (arith, height, small.top)) h) is.vias)

pub shapes_within : (l : Layout) → IsSmall l → All IsShapeWithin (shapes_of l)
shapes_within l s =
    All-append IsShapeWithin (frame_shapes l.frame ++ flat_map (λ t. finger l.frame t ∷ []) l.strips ++ flat_map (contact_shapes l.frame) l.contacts ++ flat_map (gate_shapes l.frame) l.gates) (flat_map bar_shapes l.bars)
    (All-append IsShapeWithin (frame_shapes l.frame ++ flat_map (λ t. finger l.frame t ∷ []) l.strips ++ flat_map (contact_shapes l.frame) l.contacts) (flat_map (gate_shapes l.frame) l.gates)
    (All-append IsShapeWithin (frame_shapes l.frame ++ flat_map (λ t. finger l.frame t ∷ []) l.strips) (flat_map (contact_shapes l.frame) l.contacts)
    (All-append IsShapeWithin (frame_shapes l.frame) (flat_map (λ t. finger l.frame t ∷ []) l.strips)
    (frame_within l.frame s.frame)
    (all_flat (IsSmallStrip l.frame) IsShapeWithin (λ t. finger l.frame t ∷ []) l.strips (λ t h. all_one IsShapeWithin (finger l.frame t) (finger_within l.frame s.frame t.row t h h.most)) s.strips))
    (all_flat (IsSmallContact l.frame) IsShapeWithin (contact_shapes l.frame) l.contacts (contact_within l.frame s.frame) s.contacts))
    (all_flat (IsSmallGate l.frame) IsShapeWithin (gate_shapes l.frame) l.gates (gate_within l.frame s.frame) s.gates))
    (all_flat (IsSmallBar l.frame) IsShapeWithin bar_shapes l.bars (bar_within l.frame s.frame) s.bars)

tag_within : (names : List (List ℕ)) (t : Tag) → IsSmallTag t → IsLabelWithin (label_of names t)
tag_within names t is = let right = is.right in let top = is.top in record { x = omega (arith, ints); y = omega (arith, ints) }

-- the drawing of a small layout lies within the limits
pub parts_within : (rects : List Shape) (labels : List Label) (names : List (List ℕ)) (l : Layout) → rects ≡ shapes_of l → labels ≡ map (label_of names) l.tags → IsSmall l → AreWithin (record { rects = rects; labels = labels })
parts_within rects labels names l er el s = record {
  rects = subst (λ z. All IsShapeWithin z) (sym er) (shapes_within l s);
  labels = subst (λ z. All IsLabelWithin z) (sym el) (all_map IsSmallTag IsLabelWithin (label_of names) l.tags (tag_within names) s.tags);
}

abs_most : (z : ℤ) → IsWithin z → unsigned_abs z ≤ 1000018
abs_most (pos n) h = omega (arith, ints)
abs_most (negsuc n) h = omega (arith, ints)

-- a grid unit has at most 1000 nanometres
pub fits : (unit : ℕ) (z : ℤ) → IsWithin z → unit ≤ 1000 → FitsSigned w32 (z *ℤ pos unit)
fits unit z h few = fits_signed_mul w32 z (pos unit) 1000018 1000 (abs_most z h) few (omega arith)
