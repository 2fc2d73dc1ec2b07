-- The rules on what lies around a cell: wells and selects, poly, active and metal around contacts and vias.
use Rattle.std.proofs.Common.{◌≡◌, ℕ, ◌≤◌, ℤ, pos, ◌≤ℤ◌, ◌<ℤ◌, Option, Some, None, arith, inl, inr, ◌⊎◌, refl, sym, subst}
use Rattle.std.specs.List.{Contains}
use Rattle.std.proofs.lemmas.Int.{ints}
use Rattle.cell_num.specs.declared.finger.Row.{Row}
use Rattle.cell_num.specs.declared.finger.Row.TheVariants.{P, N}
use Rattle.box_geom.specs.Rectangle.{Holds}
use Rattle.box_geom.specs.Near.{Near}
use Rattle.box_geom.specs.declared.layer.Layer.TheVariants.{Well, Active, Poly, Metal1, Metal2}
use Rattle.scmos_rules.specs.declared.rules.Deck.TheVariants.{Plain}
use Rattle.scmos_rules.specs.declared.number.RuleNo.TheVariants.{N2_3, N4_2, N5_2, N5_4, N6_2, N7_3, N8_3, N8_4, N8_5, N9_3}
use Rattle.box_geom.specs.Regions.{IsEmpty}
use Rattle.scmos_rules.specs.Rules.{Fails}
use Rattle.scmos_rules.specs.Layout.{On}
use Rattle.cell_draw.specs.declared.layout.Frame.{Frame}
use Rattle.cell_draw.specs.declared.layout.Contact.{Contact}
use Rattle.cell_draw.specs.declared.layout.Gate.{Gate}
use Rattle.cell_draw.specs.declared.layout.Bar.{Bar}
use Rattle.cell_draw.specs.declared.layout.Layout.{Layout}
use Rattle.cell_draw.specs.Shapes.{well, p_select, n_select, strap, branch, bar_metal, shapes_of}
use Rattle.cell_draw.specs.Laid.{IsFrame, GoesTo, IsLaid}
use Rattle.cell_draw.proofs.RulesPlaces.{InChannel}
use Rattle.cell_draw.proofs.RulesActive.{pad_in}
use Rattle.cell_draw.proofs.RulesActive as area
use Rattle.cell_draw.proofs.RulesPoly.{IsPad}
use Rattle.cell_draw.proofs.RulesPoly as poly
use Rattle.cell_draw.proofs.RulesMetal2.{reach_in}
use Rattle.cell_draw.proofs.RulesContacts.{Cut, node_of, node_in, gate_of, gate_at, IsCut, cut_rect}
use Rattle.cell_draw.proofs.RulesVias.{ViaPlace, landing_of, landing_in, meeting_of, meeting_at, IsViaPlace, via_rect, bar_in}
use Rattle.cell_draw.proofs.RulesCovers.{well_covers, p_select_covers, n_select_covers, area_covers, poly_covers, strap_covers, bar_covers, branch_covers, well_holds, cut_held, via_held}
use Rattle.cell_draw.proofs.RulesRows.{InN, InP, active_row, poly_at_gate, AtContact, InMiddle, via_height, via_at_contact, no_gate_near}

-- the rows of active and the well
n_clear : (f : Frame) (k : ℕ) → IsFrame f k → (x y s t : ℤ) → InN f x y → Holds (well f).rect s t → Near 12 x y s t → ⊥
n_clear f k fr x y s t n h near = omega (arith, ints)

p_inside : (f : Frame) (k : ℕ) → IsFrame f k → (x y s t : ℤ) → InP f x y → Near 12 x y s t → Holds (well f).rect s t
p_inside f k fr x y s t p near = omega (arith, ints)

abbrev here : (d : ℕ) (x y : ℤ) → Near d x y x y
here d x y = omega (arith, ints)

-- an active cell in the well is of the P row, one outside of the N row
in_p : (l : Layout) (w : IsLaid l) (x y : ℤ) → On Active (shapes_of l) x y → On Well (shapes_of l) x y → InP l.frame x y
in_p l w x y a q =
    elim (active_row l w x y a) [
      | inl n ↦ absurd (n_clear l.frame w.tracks w.frame x y x y n (well_holds l x y q) (here 12 x y))
      | inr p ↦ p
    ]

in_n : (l : Layout) (w : IsLaid l) (x y : ℤ) → On Active (shapes_of l) x y → (On Well (shapes_of l) x y → ⊥) → InN l.frame x y
in_n l w x y a out =
    elim (active_row l w x y a) [
      | inl n ↦ n
      | inr p ↦ absurd (out (well_covers l x y (p_inside l.frame w.tracks w.frame x y x y p (here 12 x y))))
    ]

pub n2_3 : (l : Layout) (w : IsLaid l) → IsEmpty (Fails Plain N2_3 (shapes_of l))
n2_3 l w x y (inl f) = let p = in_p l w x y f.covered.0 f.covered.1 in f.out (well_covers l f.s f.t (p_inside l.frame w.tracks w.frame x y f.s f.t p f.near))
n2_3 l w x y (inr f) = let n = in_n l w x y f.covered.0 f.covered.1 in n_clear l.frame w.tracks w.frame x y f.s f.t n (well_holds l f.s f.t f.within) f.near

p_selects : (f : Frame) (k : ℕ) → IsFrame f k → (x y s t : ℤ) → InP f x y → Near 4 x y s t → Holds (p_select f).rect s t
p_selects f k fr x y s t p near = omega (arith, ints)

n_selects : (f : Frame) (k : ℕ) → IsFrame f k → (x y s t : ℤ) → InN f x y → Near 4 x y s t → Holds (n_select f).rect s t
n_selects f k fr x y s t n near = omega (arith, ints)

pub n4_2 : (l : Layout) (w : IsLaid l) → IsEmpty (Fails Plain N4_2 (shapes_of l))
n4_2 l w x y (inl f) = let p = in_p l w x y f.covered.0 f.covered.1 in f.out (p_select_covers l f.s f.t (p_selects l.frame w.tracks w.frame x y f.s f.t p f.near))
n4_2 l w x y (inr f) = let n = in_n l w x y f.covered.0 f.covered.1 in f.out (n_select_covers l f.s f.t (n_selects l.frame w.tracks w.frame x y f.s f.t n f.near))

-- a contact of a node is in its pad, and of a gate in the gate's
in_pad : (f : Frame) (row : Row) (z : ℕ) (x y s t : ℤ) → Holds (node_in f row z).rect x y → Near 3 x y s t → Holds (pad_in f row z).rect s t
in_pad f row z x y s t h near = omega (arith, ints)

in_poly_pad : (z u : ℕ) (x y s t : ℤ) → Holds (gate_at z u).rect x y → Near 3 x y s t → Holds (poly.pad_at z u).rect s t
in_poly_pad z u x y s t h near = omega (arith, ints)

-- no contact of a node is near poly, none of a gate near active
node_far : (l : Layout) (w : IsLaid l) (c : Contact) → Contains l.contacts c → (x y s t : ℤ) → Holds (cut_rect l (node_of c)) x y → On Poly (shapes_of l) s t → Near 4 x y s t → ⊥
node_far l w c h x y s t k p near =
    no_gate_near l w x s (record { contact = c; listed = h; left = omega (arith, ints); right = omega (arith, ints) }) (poly_at_gate l s t p) near.left near.right

gate_far : (l : Layout) (w : IsLaid l) (g : Gate) (u : ℕ) → IsPad l g u → (x y s t : ℤ) → Holds (gate_at g.x u).rect x y → On Active (shapes_of l) s t → Near 4 x y s t → ⊥
gate_far l w g u h x y s t k a near =
    let c = poly.pad_in l w g u h in
    elim (active_row l w s t a) [ inl n ↦ omega (arith, ints) | inr p ↦ omega (arith, ints) ]

on_some : (l : Layout) (a : Cut) → IsCut l a → (x y : ℤ) → Holds (cut_rect l a) x y → On Poly (shapes_of l) x y ⊎ On Active (shapes_of l) x y
on_some l (node_of c) h x y k = inr (area_covers l (area.pad_of c) h x y (in_pad l.frame c.row c.x x y x y k (here 3 x y)))
on_some l (gate_of g u) h x y k = inl (poly_covers l (poly.pad_of g u) h x y (in_poly_pad g.x u x y x y k (here 3 x y)))

poly_around : (l : Layout) (w : IsLaid l) (a : Cut) → IsCut l a → (x y s t : ℤ) → Holds (cut_rect l a) x y → On Poly (shapes_of l) x y → Near 3 x y s t → On Poly (shapes_of l) s t
poly_around l w (node_of c) h x y s t k p near = absurd (node_far l w c h x y x y k p (here 4 x y))
poly_around l w (gate_of g u) h x y s t k p near = poly_covers l (poly.pad_of g u) h s t (in_poly_pad g.x u x y s t k near)

pub n5_2 : (l : Layout) (w : IsLaid l) → IsEmpty (Fails Plain N5_2 (shapes_of l))
n5_2 l w x y (inl f) =
    let a = cut_held l x y f.0 in
    elim (on_some l a.piece a.listed x y a.holds) [ inl p ↦ f.1.0 p | inr q ↦ f.1.1 q ]
n5_2 l w x y (inr f) =
    let a = cut_held l x y f.covered.0 in
    f.out (poly_around l w a.piece a.listed x y f.s f.t a.holds f.covered.1 f.near)

gate_clear : (l : Layout) (w : IsLaid l) (a : Cut) → IsCut l a → (x y s t : ℤ) → Holds (cut_rect l a) x y → On Active (shapes_of l) s t → On Poly (shapes_of l) s t → Near 4 x y s t → ⊥
gate_clear l w (node_of c) h x y s t k a p near = node_far l w c h x y s t k p near
gate_clear l w (gate_of g u) h x y s t k a p near = gate_far l w g u h x y s t k a near

pub n5_4 : (l : Layout) (w : IsLaid l) → IsEmpty (Fails Plain N5_4 (shapes_of l))
n5_4 l w x y f = let a = cut_held l x y f.covered in gate_clear l w a.piece a.listed x y f.s f.t a.holds f.within.0 f.within.1 f.near

active_around : (l : Layout) (w : IsLaid l) (a : Cut) → IsCut l a → (x y s t : ℤ) → Holds (cut_rect l a) x y → On Active (shapes_of l) x y → Near 3 x y s t → On Active (shapes_of l) s t
active_around l w (node_of c) h x y s t k q near = area_covers l (area.pad_of c) h s t (in_pad l.frame c.row c.x x y s t k near)
active_around l w (gate_of g u) h x y s t k q near = absurd (gate_far l w g u h x y x y k q (here 4 x y))

pub n6_2 : (l : Layout) (w : IsLaid l) → IsEmpty (Fails Plain N6_2 (shapes_of l))
n6_2 l w x y f =
    let a = cut_held l x y f.covered.0 in
    f.out (active_around l w a.piece a.listed x y f.s f.t a.holds f.covered.1.0 f.near)

-- contacts and landings are in straps
node_in_strap : (f : Frame) (k : ℕ) → IsFrame f k → (row : Row) (z : ℕ) (o : Option ℕ) (x y s t : ℤ) → Holds (node_in f row z).rect x y → Near 2 x y s t → Holds (strap f row z o).rect s t
node_in_strap f k fr N z None x y s t h near = omega (arith, ints)
node_in_strap f k fr N z (Some u) x y s t h near = omega (arith, ints)
node_in_strap f k fr P z None x y s t h near = omega (arith, ints)
node_in_strap f k fr P z (Some u) x y s t h near = omega (arith, ints)

landing_in_strap : (f : Frame) (row : Row) (z u : ℕ) (x y s t : ℤ) → Holds (landing_in f row z).rect x y → Near 2 x y s t → Holds (strap f row z (Some u)).rect s t
landing_in_strap f N z u x y s t h near = omega (arith, ints)
landing_in_strap f P z u x y s t h near = omega (arith, ints)

in_bar : (b : Bar) (z u : ℕ) → b.left ≤ z → z ≤ b.right → b.y ≡ u → (x y s t : ℤ) → Holds (meeting_at z u).rect x y → Near 2 x y s t → Holds (bar_metal b).rect s t
in_bar b z u left right at x y s t h near = omega (arith, ints)

metal_around : (l : Layout) (w : IsLaid l) (a : Cut) → IsCut l a → (x y s t : ℤ) → Holds (cut_rect l a) x y → Near 2 x y s t → On Metal1 (shapes_of l) s t
metal_around l w (node_of c) h x y s t k near = strap_covers l c h s t (node_in_strap l.frame w.tracks w.frame c.row c.x c.reach x y s t k near)
metal_around l w (gate_of g u) h x y s t k near =
    let on = w.pads g u h.listed h.track in
    bar_covers l on.bar on.listed s t (in_bar on.bar g.x u on.left on.right on.track x y s t (omega (arith, ints)) near)

pub n7_3 : (l : Layout) (w : IsLaid l) → IsEmpty (Fails Plain N7_3 (shapes_of l))
n7_3 l w x y f = let a = cut_held l x y f.covered in f.out (metal_around l w a.piece a.listed x y f.s f.t a.holds f.near)

metal_under : (l : Layout) (w : IsLaid l) (a : ViaPlace) → IsViaPlace l a → (x y s t : ℤ) → Holds (via_rect l a) x y → Near 2 x y s t → On Metal1 (shapes_of l) s t
metal_under l w (landing_of v) h x y s t k near =
    strap_covers l v.contact h.listed s t
    (subst (λ o. Holds (strap l.frame v.contact.row v.contact.x o).rect s t) (sym h.signal)
    (landing_in_strap l.frame v.contact.row v.contact.x v.reach x y s t k near))
metal_under l w (meeting_of b z) h x y s t k near =
    let m = w.vias b z h.listed h.line in
    bar_covers l b h.listed s t (in_bar b z b.y m.left m.right refl x y s t k near)

pub n8_3 : (l : Layout) (w : IsLaid l) → IsEmpty (Fails Plain N8_3 (shapes_of l))
n8_3 l w x y f = let v = via_held l x y f.covered in f.out (metal_under l w v.piece v.listed x y f.s f.t v.holds f.near)

-- no via is near a contact
node_height : (f : Frame) (row : Row) (z : ℕ) (x y : ℤ) → Holds (node_in f row z).rect x y → (y <ℤ pos f.n_edge) ⊎ (pos f.p_edge ≤ℤ y)
node_height f N z x y h = inl (omega (arith, ints))
node_height f P z x y h = inr (omega (arith, ints))

cut_clear : (l : Layout) (w : IsLaid l) (x y : ℤ) → InMiddle l.frame y → AtContact l x → (a : Cut) → IsCut l a → (s t : ℤ) → Holds (cut_rect l a) s t → Near 4 x y s t → ⊥
cut_clear l w x y m c (node_of n) h s t k near =
    elim (node_height l.frame n.row n.x s t k) [ inl low ↦ omega (arith, ints) | inr high ↦ omega (arith, ints) ]
cut_clear l w x y m c (gate_of g u) h s t k near =
    no_gate_near l w x s c (record { gate = g; listed = h.listed; left = omega (arith, ints); right = omega (arith, ints) }) near.left near.right

pub n8_4 : (l : Layout) (w : IsLaid l) → IsEmpty (Fails Plain N8_4 (shapes_of l))
n8_4 l w x y f = let a = cut_held l f.s f.t f.within in cut_clear l w x y (via_height l w x y f.covered) (via_at_contact l w x y f.covered) a.piece a.listed f.s f.t a.holds f.near

-- no via is near poly or active
active_clear : (l : Layout) (w : IsLaid l) (x y s t : ℤ) → InMiddle l.frame y → On Active (shapes_of l) s t → Near 4 x y s t → ⊥
active_clear l w x y s t m a near = elim (active_row l w s t a) [ inl n ↦ omega (arith, ints) | inr p ↦ omega (arith, ints) ]

pub n8_5 : (l : Layout) (w : IsLaid l) → IsEmpty (Fails Plain N8_5 (shapes_of l))
n8_5 l w x y (inl f) = let a = f.0 in no_gate_near l w x a.s (via_at_contact l w x y a.covered) (poly_at_gate l a.s a.t a.within) a.near.left a.near.right
n8_5 l w x y (inr f) = let a = f.0 in active_clear l w x y a.s a.t (via_height l w x y a.covered) a.within a.near

-- landings and meetings are under branches
landing_in_branch : (f : Frame) (row : Row) (z u : ℕ) → InChannel f u → (x y s t : ℤ) → Holds (landing_in f row z).rect x y → Near 2 x y s t → Holds (branch f row z u).rect s t
landing_in_branch f N z u c x y s t h near = omega (arith, ints)
landing_in_branch f P z u c x y s t h near = omega (arith, ints)

meeting_in_branch : (f : Frame) (row : Row) (z v u : ℕ) → z ≡ v → InChannel f u → (reach : ℕ) → GoesTo row reach u → (x y s t : ℤ) → Holds (meeting_at v u).rect x y → Near 2 x y s t → Holds (branch f row z reach).rect s t
meeting_in_branch f N z v u e c reach goes x y s t h near = omega (arith, ints)
meeting_in_branch f P z v u e c reach goes x y s t h near = omega (arith, ints)

metal_over : (l : Layout) (w : IsLaid l) (a : ViaPlace) → IsViaPlace l a → (x y s t : ℤ) → Holds (via_rect l a) x y → Near 2 x y s t → On Metal2 (shapes_of l) s t
metal_over l w (landing_of v) h x y s t k near = branch_covers l v h s t (landing_in_branch l.frame v.contact.row v.contact.x v.reach (reach_in l w v h) x y s t k near)
metal_over l w (meeting_of b z) h x y s t k near =
    let m = w.vias b z h.listed h.line in
    branch_covers l (record { contact = m.contact; reach = m.reach }) (record { listed = m.listed; signal = m.signal }) s t
    (meeting_in_branch l.frame m.contact.row m.contact.x z b.y m.at (bar_in l w b h.listed) m.reach m.goes x y s t k near)

pub n9_3 : (l : Layout) (w : IsLaid l) → IsEmpty (Fails Plain N9_3 (shapes_of l))
n9_3 l w x y f = let v = via_held l x y f.covered in f.out (metal_over l w v.piece v.listed x y f.s f.t v.holds f.near)
