-- The shapes of a laid layout behind its frame are in the frame.
use Rattle.std.proofs.Common.{ℕ, ◌≡◌, ◌+◌, ◌≤◌, pos, ◌+ℤ◌, ◌≤ℤ◌, List, [], ◌∷◌, ◌++◌, Option, Some, None, inl, inr, subst, arith, All, Contains}
use Rattle.std.specs.List.{flat_map}
use Rattle.std.proofs.lemmas.Int.{ints}
use Rattle.std.proofs.lemmas.List.Elements.{All-nil, All-cons, All-append, All-contains}
use Rattle.cell_num.specs.declared.finger.Row.{Row}
use Rattle.cell_num.specs.declared.finger.Row.TheVariants.{P, N}
use Rattle.cell_num.proofs.Lists.{all_flat, all_one, all_two, all_from_contains}
use Rattle.box_geom.specs.declared.layer.Layer.{Layer}
use Rattle.box_geom.specs.declared.layer.Layer.TheVariants.{Well, Active, PSelect, NSelect, Poly, Contact as ContactCut, Via}
use Rattle.box_geom.specs.declared.shape.Shape.{Shape}
use Rattle.cell_draw.specs.declared.layout.Frame.{Frame}
use Rattle.cell_draw.specs.declared.layout.Strip.{Strip}
use Rattle.cell_draw.specs.declared.layout.Contact.{Contact}
use Rattle.cell_draw.specs.declared.layout.Gate.{Gate}
use Rattle.cell_draw.specs.declared.layout.Bar.{Bar}
use Rattle.cell_draw.specs.declared.layout.Layout.{Layout}
use Rattle.cell_draw.specs.Framed.{side_of, end_of, KeepsFrom, IsOutsideChannel, IsInFrame}
use Rattle.cell_draw.specs.Laid.{IsFrame, IsInside, row_height, IsStrip, IsWidth, IsGate, IsOnBar, IsMet, IsLaid}
use Rattle.cell_draw.specs.Shapes.{cell_height, around, finger, centre, landing, strap, branch, reach_shapes, contact_shapes, gate_low, gate_high, gate_strip, pad_shapes, gate_shapes, bar_metal, via_shapes, bar_shapes}
use Rattle.cell_draw.specs.Small.{IsHeight, IsReach}
use Rattle.cell_draw.proofs.Smalls.{track_height, reach_height}

-- a layer of no shape of the frame but the rails
abbrev Inner : Layer → Type 0
Inner Well = ⊥
Inner PSelect = ⊥
Inner NSelect = ⊥
Inner layer = Unit {0}

stands : (f : Frame) (s : Shape) → Inner s.layer → KeepsFrom f (side_of s.layer) (end_of s.layer) s.rect → (s.layer ≡ Active → IsOutsideChannel f s.rect) → IsInFrame f s
stands f s inner clear active = record {
  no_well = λ e. subst Inner e inner;
  no_p_select = λ e. subst Inner e inner;
  no_n_select = λ e. subst Inner e inner;
  clear = clear;
  active = active;
}

finger_in : (f : Frame) (tracks : ℕ) → IsFrame f tracks → (s : Strip) → IsStrip f s → IsInFrame f (finger f s)
finger_in f tracks is s h = by s.row h.most
  where
    left : 8 ≤ s.left
    left = h.left

    right : s.right + 8 ≤ f.width
    right = h.right

    by : (row : Row) → s.width ≤ row_height f row → IsInFrame f (finger f (record { row = row; left = s.left; right = s.right; width = s.width }))
    by N most = stands f (finger f (record { row = N; left = s.left; right = s.right; width = s.width })) tt (omega (arith, ints, left, right, most, is.rows.low, is.rows.channel)) (λ e. inl (omega (arith, ints)))
    by P most = stands f (finger f (record { row = P; left = s.left; right = s.right; width = s.width })) tt (omega (arith, ints, left, right, most, is.rows.low, is.rows.channel)) (λ e. inr (omega (arith, ints)))

-- active and contact of a place
centre_in : (f : Frame) (tracks : ℕ) → IsFrame f tracks → (row : Row) (x : ℕ) → IsInside f x → All (IsInFrame f) (around Active x (centre f row) 5 ∷ around ContactCut x (centre f row) 2 ∷ [])
centre_in f tracks is N x i = all_two (IsInFrame f) (around Active x (centre f N) 5) (around ContactCut x (centre f N) 2)
    (stands f (around Active x (centre f N) 5) tt (omega (arith, ints)) (λ e. inl (omega (arith, ints))))
    (stands f (around ContactCut x (centre f N) 2) tt (omega (arith, ints)) (λ e. absurd cc))
centre_in f tracks is P x i = all_two (IsInFrame f) (around Active x (centre f P) 5) (around ContactCut x (centre f P) 2)
    (stands f (around Active x (centre f P) 5) tt (omega (arith, ints)) (λ e. inr (omega (arith, ints))))
    (stands f (around ContactCut x (centre f P) 2) tt (omega (arith, ints)) (λ e. absurd cc))

strap_in : (f : Frame) (tracks : ℕ) → IsFrame f tracks → (row : Row) (x : ℕ) (o : Option ℕ) → IsInside f x → IsInFrame f (strap f row x o)
strap_in f tracks is N x None i = stands f (strap f N x None) tt (omega (arith, ints)) (λ e. absurd cc)
strap_in f tracks is N x (Some y) i = stands f (strap f N x (Some y)) tt (omega (arith, ints)) (λ e. absurd cc)
strap_in f tracks is P x None i = stands f (strap f P x None) tt (omega (arith, ints)) (λ e. absurd cc)
strap_in f tracks is P x (Some y) i = stands f (strap f P x (Some y)) tt (omega (arith, ints)) (λ e. absurd cc)

reach_in : (f : Frame) (tracks : ℕ) → IsFrame f tracks → (row : Row) (x : ℕ) (o : Option ℕ) → IsInside f x → IsReach f o → All (IsInFrame f) (reach_shapes f row x o)
reach_in f tracks is row x None i r = All-nil (IsInFrame f)
reach_in f tracks is N x (Some y) i r = all_two (IsInFrame f) (around Via x (landing f N) 2) (branch f N x y)
    (stands f (around Via x (landing f N) 2) tt (omega (arith, ints)) (λ e. absurd cc))
    (stands f (branch f N x y) tt (omega (arith, ints)) (λ e. absurd cc))
reach_in f tracks is P x (Some y) i r = all_two (IsInFrame f) (around Via x (landing f P) 2) (branch f P x y)
    (stands f (around Via x (landing f P) 2) tt (omega (arith, ints)) (λ e. absurd cc))
    (stands f (branch f P x y) tt (omega (arith, ints)) (λ e. absurd cc))

contact_in : (f : Frame) (tracks : ℕ) → IsFrame f tracks → (c : Contact) → IsInside f c.x → IsReach f c.reach → All (IsInFrame f) (contact_shapes f c)
contact_in f tracks is c i r =
    All-append (IsInFrame f) (around Active c.x (centre f c.row) 5 ∷ around ContactCut c.x (centre f c.row) 2 ∷ []) (strap f c.row c.x c.reach ∷ reach_shapes f c.row c.x c.reach)
    (centre_in f tracks is c.row c.x i)
    (All-cons (IsInFrame f) (strap f c.row c.x c.reach) (reach_shapes f c.row c.x c.reach) (strap_in f tracks is c.row c.x c.reach i) (reach_in f tracks is c.row c.x c.reach i r))

low_in : (f : Frame) (tracks : ℕ) → IsFrame f tracks → (n track : Option ℕ) → IsWidth f.n_height n → IsReach f track → pos 20 ≤ℤ gate_low f n track
low_in f tracks is (Some v) track n t = omega (arith, ints)
low_in f tracks is None (Some y) n t = omega (arith, ints)
low_in f tracks is None None n t = omega (arith, ints)

high_in : (f : Frame) (tracks : ℕ) → IsFrame f tracks → (p track : Option ℕ) → IsWidth f.p_height p → IsReach f track → (gate_high f p track +ℤ pos 20) ≤ℤ pos (cell_height f)
high_in f tracks is (Some v) track p t = omega (arith, ints)
high_in f tracks is None (Some y) p t = omega (arith, ints)
high_in f tracks is None None p t = omega (arith, ints)

pads_in : (f : Frame) (tracks : ℕ) → IsFrame f tracks → (x : ℕ) (track : Option ℕ) → IsInside f x → IsReach f track → All (IsInFrame f) (pad_shapes x track)
pads_in f tracks is x None i t = All-nil (IsInFrame f)
pads_in f tracks is x (Some y) i t = all_two (IsInFrame f) (around Poly x (pos y) 5) (around ContactCut x (pos y) 2)
    (stands f (around Poly x (pos y) 5) tt (omega (arith, ints)) (λ e. absurd cc))
    (stands f (around ContactCut x (pos y) 2) tt (omega (arith, ints)) (λ e. absurd cc))

gate_in : (f : Frame) (tracks : ℕ) → IsFrame f tracks → (g : Gate) → IsGate f g → IsReach f g.track → All (IsInFrame f) (gate_shapes f g)
gate_in f tracks is g h t =
    let i : IsInside f g.x = h.inside in
    All-cons (IsInFrame f) (gate_strip f g) (pad_shapes g.x g.track)
    (stands f (gate_strip f g) tt (record { left = omega (arith, ints, i.left); right = omega (arith, ints, i.right); low = low_in f tracks is g.n g.track h.n t; high = high_in f tracks is g.p g.track h.p t }) (λ e. absurd cc))
    (pads_in f tracks is g.x g.track i t)

-- a bar goes from line to line inside the cell
pub record IsBarInside (f : Frame) (b : Bar) : Type 0 where
  pub left : 8 ≤ b.left
  pub right : b.right + 8 ≤ f.width

via_in : (f : Frame) (tracks : ℕ) → IsFrame f tracks → (y x : ℕ) → IsHeight f y → IsInside f x → All (IsInFrame f) (via_shapes y x)
via_in f tracks is y x h i = all_one (IsInFrame f) (around Via x (pos y) 2) (stands f (around Via x (pos y) 2) tt (omega (arith, ints)) (λ e. absurd cc))

bar_in : (f : Frame) (tracks : ℕ) → IsFrame f tracks → (b : Bar) → IsBarInside f b → IsHeight f b.y → All (IsInside f) b.vias → All (IsInFrame f) (bar_shapes b)
bar_in f tracks is b i h vias =
    All-cons (IsInFrame f) (bar_metal b) (flat_map (via_shapes b.y) b.vias)
    (stands f (bar_metal b) tt (omega (arith, ints, i.left, i.right)) (λ e. absurd cc))
    (all_flat (IsInside f) (IsInFrame f) (via_shapes b.y) b.vias (λ x inside. via_in f tracks is b.y x h inside) vias)

-- fingers, contacted places, gates and bars
abbrev pub others_of : Layout → List Shape
others_of l =
    flat_map (λ s. finger l.frame s ∷ []) l.strips
    ++ flat_map (contact_shapes l.frame) l.contacts
    ++ flat_map (gate_shapes l.frame) l.gates
    ++ flat_map bar_shapes l.bars

pub others_in : (l : Layout) → IsLaid l → All (IsBarInside l.frame) l.bars → All (IsInFrame l.frame) (others_of l)
others_in l w inside =
    All-append (IsInFrame l.frame) (flat_map (λ s. finger l.frame s ∷ []) l.strips ++ flat_map (contact_shapes l.frame) l.contacts ++ flat_map (gate_shapes l.frame) l.gates) (flat_map bar_shapes l.bars)
    (All-append (IsInFrame l.frame) (flat_map (λ s. finger l.frame s ∷ []) l.strips ++ flat_map (contact_shapes l.frame) l.contacts) (flat_map (gate_shapes l.frame) l.gates)
    (All-append (IsInFrame l.frame) (flat_map (λ s. finger l.frame s ∷ []) l.strips) (flat_map (contact_shapes l.frame) l.contacts)
    (all_flat (IsStrip l.frame) (IsInFrame l.frame) (λ s. finger l.frame s ∷ []) l.strips (λ s h. all_one (IsInFrame l.frame) (finger l.frame s) (finger_in l.frame w.tracks w.frame s h)) w.strips)
    (all_flat (λ c. Contains l.contacts c) (IsInFrame l.frame) (contact_shapes l.frame) l.contacts contact (all_from_contains (λ c. Contains l.contacts c) l.contacts (λ c there. there))))
    (all_flat (λ g. Contains l.gates g) (IsInFrame l.frame) (gate_shapes l.frame) l.gates gate (all_from_contains (λ g. Contains l.gates g) l.gates (λ g there. there))))
    (all_flat (λ b. Contains l.bars b) (IsInFrame l.frame) bar_shapes l.bars bar (all_from_contains (λ b. Contains l.bars b) l.bars (λ b there. there)))
  where
    contact : (c : Contact) → Contains l.contacts c → All (IsInFrame l.frame) (contact_shapes l.frame c)
    contact c there = contact_in l.frame w.tracks w.frame c (All-contains (λ (d : Contact). IsInside l.frame d.x) l.contacts c w.inside there)
        (reach_height l.frame c.reach (λ y e. track_height l.frame w.tracks y w.frame (w.reaches c y there e)))

    on_bar : (g : Gate) (y : ℕ) → IsOnBar l g.net g.x y → IsHeight l.frame y
    on_bar g y on = subst (λ z. IsHeight l.frame z) on.track (track_height l.frame w.tracks on.bar.y w.frame (w.bars on.bar on.listed).1)

    gate : (g : Gate) → Contains l.gates g → All (IsInFrame l.frame) (gate_shapes l.frame g)
    gate g there = gate_in l.frame w.tracks w.frame g (All-contains (IsGate l.frame) l.gates g w.gates there) (reach_height l.frame g.track (λ y e. on_bar g y (w.pads g y there e)))

    bar : (b : Bar) → Contains l.bars b → All (IsInFrame l.frame) (bar_shapes b)
    bar b there =
        let i : IsBarInside l.frame b = All-contains (IsBarInside l.frame) l.bars b inside there in
        bar_in l.frame w.tracks w.frame b i (track_height l.frame w.tracks b.y w.frame (w.bars b there).1)
        (all_from_contains (IsInside l.frame) b.vias (λ x met. let m : IsMet l b x = w.vias b x there met in record { left = omega (arith, m.left, i.left); right = omega (arith, m.right, i.right) }))
