-- The width and the height of a drawn cell are the greatest x and the greatest y of its metal1.
use Rattle.std.proofs.Common.{ℕ, ◌≡◌, ◌+◌, ◌*◌, ◌≤◌, ◌<◌, List, [], ◌∷◌, ◌++◌, length, map, refl, sym, subst, ap, inl, inr, arith, All, Any, Contains}
use Rattle.std.specs.Prelude.{Option, Some, None, option_map, flat_map, pos, ◌≤ℤ◌}
use Rattle.std.proofs.lemmas.Bool.{cases_Bool}
use Rattle.std.proofs.lemmas.Int.{ints}
use Rattle.std.proofs.lemmas.List.Elements.{All-nil, All-cons, All-head, All-tail, All-append, All-contains, All-map}
use Rattle.cell_num.specs.declared.finger.Row.{Row}
use Rattle.cell_num.specs.declared.finger.Row.TheVariants.{P, N}
use Rattle.cell_num.specs.declared.net.Pins.{Pins}
use Rattle.cell_num.proofs.Lists.{contains_here, contains_there, all_from_contains, all_flat, all_one, kept_from, some_same}
use Rattle.cell_num.proofs.Pairs.{any_at}
use Rattle.box_geom.specs.declared.layer.Layer.TheVariants.{Active, Poly, Contact as ContactCut, Metal1, Via}
use Rattle.box_geom.specs.declared.shape.Shape.{Shape}
use Rattle.box_geom.specs.Layers.{same_layer}
use Rattle.row_place.specs.declared.placement.NodePlace.{NodePlace}
use Rattle.row_place.specs.declared.placement.Placement.{Placement}
use Rattle.row_place.specs.Places.{IsPlacement}
use Rattle.row_place.proofs.Bounds.{node_line}
use Rattle.channel_route.specs.declared.routing.Trunk.{Trunk}
use Rattle.channel_route.specs.declared.routing.Routing.{Routing}
use Rattle.channel_route.specs.Routing.{IsLegal}
use Rattle.channel_route.specs.Wiring.{IsWiring}
use Rattle.channel_route.proofs.LegalWiring.{legal_wiring}
use Rattle.row_compact.specs.Allowed.{AreAllowed, stretches_of}
use Rattle.cell_num.specs.Pins.{is_rail}
use Rattle.row_compact.specs.Solution.{x_of}
use Rattle.row_compact.proofs.Within.{wired_right}
use Rattle.cell_draw.specs.declared.layout.Bar.{Bar}
use Rattle.cell_draw.specs.declared.layout.Contact.{Contact}
use Rattle.cell_draw.specs.declared.layout.Frame.{Frame}
use Rattle.cell_draw.specs.declared.layout.Gate.{Gate}
use Rattle.cell_draw.specs.declared.layout.Layout.{Layout}
use Rattle.cell_draw.specs.declared.layout.Strip.{Strip}
use Rattle.cell_draw.specs.Drawings.{drawing_of, drawn_of}
use Rattle.cell_draw.specs.Layouts.{contact_with, contact_of, bar_of, reach_of, layout_of}
use Rattle.cell_draw.specs.Shapes.{around, cell_height, well, p_select, n_select, centre, landing, branch, gnd_rail, vdd_rail, frame_shapes, finger, strap, strap_high, reach_shapes, contact_shapes, gate_strip, pad_shapes, gate_shapes, bar_metal, via_shapes, bar_shapes, shapes_of}
use Rattle.lef_write.specs.Drawn.{shapes_on, IsWithin, IsAtEnd, IsSized}
use Rattle.lef_write.proofs.Placed.{one_layer}
use Rattle.lef_write.proofs.Shown.{inner_shapes, metal_of}
use Rattle.lef_write.proofs.Named.{rising}

-- ---- metal1 of a layout whose contacts and bars lie within it

-- a shape of metal1 does not reach beyond the cell
abbrev Fits : Frame → Shape → Type 0
Fits f s = s.layer ≡ Metal1 → (s.rect.x2 ≤ℤ pos f.width) × (s.rect.y2 ≤ℤ pos (cell_height f))

record FitsContact (f : Frame) (c : Contact) : Type 0 where
  right : c.x + 8 ≤ f.width

record FitsBar (f : Frame) (b : Bar) : Type 0 where
  right : b.right + 8 ≤ f.width
  top : b.y + 4 ≤ f.p_edge

-- other layers do not count
other : (f : Frame) (s : Shape) → (s.layer ≡ Metal1 → ⊥) → Fits f s
other f s differ = λ e. absurd (differ e)

frame_fits : (f : Frame) → All (Fits f) (frame_shapes f)
frame_fits f =
    All-cons (Fits f) (well f) (p_select f ∷ n_select f ∷ gnd_rail f ∷ vdd_rail f ∷ []) (other f (well f) (λ e. cc))
    (All-cons (Fits f) (p_select f) (n_select f ∷ gnd_rail f ∷ vdd_rail f ∷ []) (other f (p_select f) (λ e. cc))
    (All-cons (Fits f) (n_select f) (gnd_rail f ∷ vdd_rail f ∷ []) (other f (n_select f) (λ e. cc))
    (All-cons (Fits f) (gnd_rail f) (vdd_rail f ∷ []) (λ e. (omega (arith, ints), omega (arith, ints)))
    (all_one (Fits f) (vdd_rail f) (λ e. (omega (arith, ints), omega (arith, ints)))))))

strap_fits : (f : Frame) (row : Row) (reach : Option ℕ) → f.n_edge + 40 ≤ f.p_edge → strap_high f row reach ≤ℤ pos (cell_height f)
strap_fits f N None channel = omega (arith, ints, channel)
strap_fits f P None channel = omega (arith, ints, channel)
strap_fits f N (Some reach) channel = omega (arith, ints, channel)
strap_fits f P (Some reach) channel = omega (arith, ints, channel)

reach_fits : (f : Frame) (row : Row) (x : ℕ) (reach : Option ℕ) → All (Fits f) (reach_shapes f row x reach)
reach_fits f row x None = All-nil (Fits f)
reach_fits f row x (Some reach) = All-cons (Fits f) (around Via x (landing f row) 2) (branch f row x reach ∷ []) (other f (around Via x (landing f row) 2) (λ e. cc)) (all_one (Fits f) (branch f row x reach) (other f (branch f row x reach) (λ e. cc)))

contact_fits : (f : Frame) (c : Contact) → f.n_edge + 40 ≤ f.p_edge → FitsContact f c → All (Fits f) (contact_shapes f c)
contact_fits f c channel fits =
    All-cons (Fits f) (around Active c.x (centre f c.row) 5) (around ContactCut c.x (centre f c.row) 2 ∷ strap f c.row c.x c.reach ∷ reach_shapes f c.row c.x c.reach) (other f (around Active c.x (centre f c.row) 5) (λ e. cc))
    (All-cons (Fits f) (around ContactCut c.x (centre f c.row) 2) (strap f c.row c.x c.reach ∷ reach_shapes f c.row c.x c.reach) (other f (around ContactCut c.x (centre f c.row) 2) (λ e. cc))
    (All-cons (Fits f) (strap f c.row c.x c.reach) (reach_shapes f c.row c.x c.reach) (λ e. (omega (arith, ints, fits.right), strap_fits f c.row c.reach channel)) (reach_fits f c.row c.x c.reach)))

pad_fits : (f : Frame) (x : ℕ) (track : Option ℕ) → All (Fits f) (pad_shapes x track)
pad_fits f x None = All-nil (Fits f)
pad_fits f x (Some track) = All-cons (Fits f) (around Poly x (pos track) 5) (around ContactCut x (pos track) 2 ∷ []) (other f (around Poly x (pos track) 5) (λ e. cc)) (all_one (Fits f) (around ContactCut x (pos track) 2) (other f (around ContactCut x (pos track) 2) (λ e. cc)))

gate_fits : (f : Frame) (g : Gate) → All (Fits f) (gate_shapes f g)
gate_fits f g = All-cons (Fits f) (gate_strip f g) (pad_shapes g.x g.track) (other f (gate_strip f g) (λ e. cc)) (pad_fits f g.x g.track)

bar_fits : (f : Frame) (b : Bar) → FitsBar f b → All (Fits f) (bar_shapes b)
bar_fits f b fits = All-cons (Fits f) (bar_metal b) (flat_map (via_shapes b.y) b.vias) (λ e. (omega (arith, ints, fits.right), omega (arith, ints, fits.top))) (all_flat (λ (x : ℕ). Unit {0}) (Fits f) (via_shapes b.y) b.vias (λ x u. all_one (Fits f) (around Via x (pos b.y) 2) (other f (around Via x (pos b.y) 2) (λ e. cc))) (λ k d lt. tt))

all_fit : (l : Layout) → l.frame.n_edge + 40 ≤ l.frame.p_edge → All (FitsContact l.frame) l.contacts → All (FitsBar l.frame) l.bars → All (Fits l.frame) (shapes_of l)
all_fit l channel contacts bars =
    All-append (Fits l.frame) (frame_shapes l.frame ++ flat_map (λ (s : Strip). finger l.frame s ∷ []) l.strips ++ flat_map (contact_shapes l.frame) l.contacts ++ flat_map (gate_shapes l.frame) l.gates) (flat_map bar_shapes l.bars)
    (All-append (Fits l.frame) (frame_shapes l.frame ++ flat_map (λ (s : Strip). finger l.frame s ∷ []) l.strips ++ flat_map (contact_shapes l.frame) l.contacts) (flat_map (gate_shapes l.frame) l.gates)
    (All-append (Fits l.frame) (frame_shapes l.frame ++ flat_map (λ (s : Strip). finger l.frame s ∷ []) l.strips) (flat_map (contact_shapes l.frame) l.contacts)
    (All-append (Fits l.frame) (frame_shapes l.frame) (flat_map (λ (s : Strip). finger l.frame s ∷ []) l.strips) (frame_fits l.frame) (all_flat (λ (s : Strip). Unit {0}) (Fits l.frame) (λ (s : Strip). finger l.frame s ∷ []) l.strips (λ s u. all_one (Fits l.frame) (finger l.frame s) (other l.frame (finger l.frame s) (λ e. cc))) (λ k d lt. tt)))
    (all_flat (FitsContact l.frame) (Fits l.frame) (contact_shapes l.frame) l.contacts (λ c fits. contact_fits l.frame c channel fits) contacts))
    (all_flat (λ (g : Gate). Unit {0}) (Fits l.frame) (gate_shapes l.frame) l.gates (λ g u. gate_fits l.frame g) (λ k d lt. tt)))
    (all_flat (FitsBar l.frame) (Fits l.frame) bar_shapes l.bars (λ b fits. bar_fits l.frame b fits) bars)

within : (names : List (List ℕ)) (l : Layout) (xs : List Shape) → All (Fits l.frame) xs → All (IsWithin (drawing_of names l)) (shapes_on Metal1 xs)
within names l [] fits = All-nil (IsWithin (drawing_of names l))
within names l (x ∷ xs) fits = elim (cases_Bool (same_layer x.layer Metal1)) [
  | inl on ↦
      let here = All-head (Fits l.frame) x xs fits (one_layer x.layer Metal1 on) in
      rw on (All-cons (IsWithin (drawing_of names l)) x (shapes_on Metal1 xs) (record { right = here.0; top = here.1 }) (within names l xs (All-tail (Fits l.frame) x xs fits)))
  | inr off ↦ rw off (within names l xs (All-tail (Fits l.frame) x xs fits))
]

at_end : (names : List (List ℕ)) (l : Layout) → Any (IsAtEnd (drawing_of names l)) (shapes_on Metal1 (shapes_of l))
at_end names l = any_at (IsAtEnd (drawing_of names l)) (shapes_on Metal1 (shapes_of l)) (vdd_rail l.frame) (subst (λ ss. Contains ss (vdd_rail l.frame)) (sym (metal_of l)) (contains_there (gnd_rail l.frame) (vdd_rail l.frame ∷ (shapes_on Metal1 (inner_shapes l) ++ map bar_metal l.bars)) (vdd_rail l.frame) (contains_here (vdd_rail l.frame) (shapes_on Metal1 (inner_shapes l) ++ map bar_metal l.bars)))) (record { right = refl; top = refl })

-- ---- the layout of a routed row

contact_x : (f : Frame) (pins : Pins) (trunks : List Trunk) (xs : List ℕ) (node : NodePlace) (c : Contact) → contact_of f pins trunks xs node ≡ Some c → c.x ≡ x_of xs node.line
contact_x f pins trunks xs node c e = elim (cases_Bool (is_rail pins node.net)) [
  | inl rail ↦ sym (ap (λ (d : Contact). d.x) (some_same (contact_with xs node None) c (rw rail at e)))
  | inr signal ↦ by_reach (reach_of f trunks node) (rw signal at e)
]
  where
    by_reach : (o : Option ℕ) → option_map (λ reach. contact_with xs node (Some reach)) o ≡ Some c → c.x ≡ x_of xs node.line
    by_reach None e = absurd cc
    by_reach (Some reach) e = sym (ap (λ (d : Contact). d.x) (some_same (contact_with xs node (Some reach)) c e))

contacts_fit : (names : List (List ℕ)) (pins : Pins) (p : Placement) (r : Routing) (xs : List ℕ) (height : ℕ) → IsPlacement p → AreAllowed p pins (stretches_of r.trunks) xs → All (FitsContact (layout_of (length names) pins p r xs height).frame) (layout_of (length names) pins p r xs height).contacts
contacts_fit names pins p r xs height placed allowed = all_from_contains (FitsContact (layout_of (length names) pins p r xs height).frame) (layout_of (length names) pins p r xs height).contacts (λ c there.
    let kept = kept_from (contact_of (layout_of (length names) pins p r xs height).frame pins r.trunks xs) p.nodes c there in
    let at : c.x ≡ x_of xs kept.from.line = contact_x (layout_of (length names) pins p r xs height).frame pins r.trunks xs kept.from c kept.gives in
    record { right = omega (arith, at, rising p pins r xs allowed kept.from.line (2 * length p.units) (node_line p placed kept.from kept.there) (omega arith)) })

bars_fit : (names : List (List ℕ)) (pins : Pins) (p : Placement) (r : Routing) (xs : List ℕ) (height : ℕ) → IsPlacement p → IsWiring p pins r → AreAllowed p pins (stretches_of r.trunks) xs → All (FitsBar (layout_of (length names) pins p r xs height).frame) (layout_of (length names) pins p r xs height).bars
bars_fit names pins p r xs height placed wiring allowed = All-map (FitsBar (layout_of (length names) pins p r xs height).frame) (bar_of (layout_of (length names) pins p r xs height).frame p.nodes r.trunks xs) r.trunks (all_from_contains (λ (t : Trunk). FitsBar (layout_of (length names) pins p r xs height).frame (bar_of (layout_of (length names) pins p r xs height).frame p.nodes r.trunks xs t)) r.trunks (λ t there.
    let low : t.track < r.tracks = All-contains (λ (u : Trunk). u.track < r.tracks) r.trunks t wiring.tracks there in
    record {
      right = omega (arith, rising p pins r xs allowed t.right (2 * length p.units) (wired_right p pins r placed wiring t there) (omega arith));
      top = omega (arith, low);
    }))

-- the size of a drawn cell is that of its metal1
pub wired_sized : (names : List (List ℕ)) (pins : Pins) (p : Placement) (r : Routing) (xs : List ℕ) (height : ℕ) → IsPlacement p → IsWiring p pins r → AreAllowed p pins (stretches_of r.trunks) xs → IsSized (drawn_of names pins p r xs height)
wired_sized names pins p r xs height placed wiring allowed = record {
  most = within names (layout_of (length names) pins p r xs height) (shapes_of (layout_of (length names) pins p r xs height)) (all_fit (layout_of (length names) pins p r xs height) (omega arith) (contacts_fit names pins p r xs height placed allowed) (bars_fit names pins p r xs height placed wiring allowed));
  there = at_end names (layout_of (length names) pins p r xs height);
}

-- the same for a routed row
pub sized : (names : List (List ℕ)) (pins : Pins) (p : Placement) (r : Routing) (xs : List ℕ) (height : ℕ) → IsPlacement p → IsLegal p pins r → AreAllowed p pins (stretches_of r.trunks) xs → IsSized (drawn_of names pins p r xs height)
sized names pins p r xs height placed legal allowed = wired_sized names pins p r xs height placed (legal_wiring p pins r legal) allowed
