-- Pieces of one net are chained: each leads to the rail or the bar of its net, or to its only place.
use Rattle.std.proofs.Common.{◌≡◌, ℕ, ◌+◌, ◌≤◌, ℤ, pos, ◌+ℤ◌, ◌-ℤ◌, Option, Some, None, arith, inl, inr, ◌⊎◌, refl, sym, ap, subst}
use Rattle.std.specs.List.{Contains, flat_map}
use Rattle.std.proofs.lemmas.Int.{ints}
use Rattle.cell_num.specs.declared.finger.Row.{Row}
use Rattle.cell_num.specs.declared.finger.Row.TheVariants.{P, N}
use Rattle.box_geom.specs.Rectangle.{Holds}
use Rattle.box_geom.specs.Touching.{Edge, to_right, to_left, upward, downward}
use Rattle.box_geom.specs.Chains.{Chain}
use Rattle.box_geom.specs.Layers.{rects_on}
use Rattle.box_geom.specs.declared.layer.Layer.TheVariants.{Contact as ContactCut, Via}
use Rattle.cell_num.proofs.In.{In, contains_in}
use Rattle.scmos_rules.specs.Layout.{On}
use Rattle.number_trees.proofs.Chains.{none, one, joined, turned}
use Rattle.scmos_rules.specs.declared.rules.Deck.TheVariants.{Plain}
use Rattle.net_extract.specs.Nets.{of_poly, Joins, by_contact, by_via, Through}
use Rattle.net_extract.specs.Devices.{diffusion_of}
use Rattle.net_extract.specs.Bonds.{Bond, touching, joining, tying, Bonded}
use Rattle.net_extract.specs.declared.piece.Piece.{Piece}
use Rattle.cell_draw.specs.declared.layout.Frame.{Frame}
use Rattle.cell_draw.specs.declared.layout.Strip.{Strip}
use Rattle.cell_draw.specs.declared.layout.Contact.{Contact}
use Rattle.cell_draw.specs.declared.layout.Gate.{Gate}
use Rattle.cell_draw.specs.declared.layout.Bar.{Bar}
use Rattle.cell_draw.specs.declared.layout.Layout.{Layout}
use Rattle.cell_draw.specs.Shapes.{strap, landing, centre, reach_shapes, pad_shapes, via_shapes, shapes_of}
use Rattle.cell_draw.specs.Laid.{IsFrame, IsInside, HasFinger, IsOnBar, IsMet, IsLaid}
use Rattle.cell_draw.proofs.NetsApart.{wire_piece}
use Rattle.cell_draw.proofs.NetsLinks.{lower_row, strap_over, pad_around, landing_strap, landing_branch, branch_meets}
use Rattle.cell_draw.proofs.NetsFacts.{End, left_end, right_end, end_x, IsOver, Reaches, HasContact, IsNetted}
use Rattle.cell_draw.proofs.NetsWires.{Wire, metal, branch, gate, half, pad, half_in, kind_of, rect_of, IsWire, parts, wire_listed}
use Rattle.cell_draw.proofs.RulesActive.{pad_in, strip_is}
use Rattle.cell_draw.proofs.RulesContacts.{Cut, node_of, gate_of, IsCut, cut_rect}
use Rattle.cell_draw.proofs.RulesCovers.{covers}
use Rattle.cell_draw.proofs.RulesMetal1.{gnd, vdd, strap_of, bar_of}
use Rattle.cell_draw.proofs.RulesRows.{inside_of}
use Rattle.cell_draw.proofs.RulesLayers.{pieces_in, of_contact, of_gate, of_bar}
use Rattle.cell_draw.proofs.RulesMetal2.{Signal, IsSignal, reach_in}
use Rattle.cell_draw.proofs.RulesPlaces.{InChannel}
use Rattle.cell_draw.proofs.RulesPoly.{strip_of, pad_of, strip_at, pad_at, IsPad, gate_is, pad_in as pad_inside}
use Rattle.cell_draw.proofs.RulesVias.{ViaPlace, landing_of, meeting_of, IsMeeting, IsViaPlace, via_rect, bar_in}

abbrev pub Together : (l : Layout) → IsNetted l → Wire → Wire → Type 0
Together l n a b = Chain (Bonded Plain (shapes_of l) (parts l n)) (wire_piece l n a) (wire_piece l n b)

linked : (l : Layout) (n : IsNetted l) (a b : Wire) → IsWire l a → IsWire l b → Bond Plain (shapes_of l) (wire_piece l n a) (wire_piece l n b) → Together l n a b
linked l n a b h k bond = one (Bonded Plain (shapes_of l) (parts l n)) (wire_piece l n a) (wire_piece l n b) (record { from = wire_listed l n a h; to = wire_listed l n b k; bond = bond })

-- pieces of one kind with a common cell
pub shared : (l : Layout) (n : IsNetted l) (a b : Wire) → IsWire l a → IsWire l b → kind_of a ≡ kind_of b → (x y : ℤ) → Holds (rect_of l n a) x y → Holds (rect_of l n b) x y → Together l n a b
shared l n a b h k e x y i j = linked l n a b h k (touching e (record { one = record { x = x; y = y }; other = record { x = x; y = y }; in_a = i; in_b = j; meet = inl refl }))

-- pieces of one kind, the second above the first
stacked : (l : Layout) (n : IsNetted l) (a b : Wire) → IsWire l a → IsWire l b → kind_of a ≡ kind_of b → (x y : ℤ) → Holds (rect_of l n a) x y → Holds (rect_of l n b) x (y +ℤ pos 1) → Together l n a b
stacked l n a b h k e x y i j = linked l n a b h k (touching e (record { one = record { x = x; y = y }; other = record { x = x; y = y +ℤ pos 1 }; in_a = i; in_b = j; meet = inr (upward refl refl) }))

-- pieces of one kind, the second to the right of the first
abreast : (l : Layout) (n : IsNetted l) (a b : Wire) → IsWire l a → IsWire l b → kind_of a ≡ kind_of b → (x y : ℤ) → Holds (rect_of l n a) x y → Holds (rect_of l n b) (x +ℤ pos 1) y → Together l n a b
abreast l n a b h k e x y i j = linked l n a b h k (touching e (record { one = record { x = x; y = y }; other = record { x = x +ℤ pos 1; y = y }; in_a = i; in_b = j; meet = inr (to_right refl refl) }))

-- pieces that a contact or a via links in a cell
through : (l : Layout) (n : IsNetted l) (a b : Wire) → IsWire l a → IsWire l b → (x y : ℤ) → Holds (rect_of l n a) x y → Holds (rect_of l n b) x y → Joins (shapes_of l) x y (kind_of b) (kind_of a) → Together l n a b
through l n a b h k x y i j z = linked l n a b h k (joining (record { x = x; y = y; in_p = i; in_q = j; through = inr z }))

pub together : (l : Layout) (n : IsNetted l) (a b c : Wire) → Together l n a b → Together l n b c → Together l n a c
together l n a b c = joined (Bonded Plain (shapes_of l) (parts l n)) (wire_piece l n a) (wire_piece l n b) (wire_piece l n c)

turn_bond : (l : Layout) (p q : Piece) → Bond Plain (shapes_of l) p q → Bond Plain (shapes_of l) q p
turn_bond l p q (touching e t) = touching (sym e) (record { one = t.other; other = t.one; in_a = t.in_b; in_b = t.in_a; meet = meet t.meet })
  where
    edge : Edge t.one t.other → Edge t.other t.one
    edge (to_right x y) = to_left x (sym y)
    edge (to_left x y) = to_right x (sym y)
    edge (upward x y) = downward (sym x) y
    edge (downward x y) = upward (sym x) y

    meet : (t.one ≡ t.other) ⊎ Edge t.one t.other → (t.other ≡ t.one) ⊎ Edge t.other t.one
    meet (inl same) = inl (sym same)
    meet (inr z) = inr (edge z)
turn_bond l p q (tying d z) = absurd (cc d)
turn_bond l p q (joining j) = joining (record { x = j.x; y = j.y; in_p = j.in_q; in_q = j.in_p; through = flip j.through })
  where
    flip : Through (shapes_of l) j.x j.y p.kind q.kind → Through (shapes_of l) j.x j.y q.kind p.kind
    flip (inl z) = inr z
    flip (inr z) = inl z

-- the other way round
pub back : (l : Layout) (n : IsNetted l) (a b : Wire) → Together l n a b → Together l n b a
back l n a b = turned (Bonded Plain (shapes_of l) (parts l n)) (λ p q z. record { from = z.to; to = z.from; bond = turn_bond l p q z.bond }) (wire_piece l n a) (wire_piece l n b)

-- ---- contacts and vias stand on their layers
cut_covers : (l : Layout) (a : Cut) → IsCut l a → (x y : ℤ) → Holds (cut_rect l a) x y → On ContactCut (shapes_of l) x y
cut_covers l (node_of c) h = covers ContactCut l (cut_rect l (node_of c)) (of_contact c h (inl refl))
cut_covers l (gate_of g t) h = covers ContactCut l (cut_rect l (gate_of g t)) (of_gate g h.listed (subst (λ o. In (rects_on ContactCut (pad_shapes g.x o)) (cut_rect l (gate_of g t))) (sym h.track) (inl refl)))

via_covers : (l : Layout) (a : ViaPlace) → IsViaPlace l a → (x y : ℤ) → Holds (via_rect l a) x y → On Via (shapes_of l) x y
via_covers l (landing_of s) h = covers Via l (via_rect l (landing_of s)) (of_contact s.contact h.listed (subst (λ o. In (rects_on Via (reach_shapes l.frame s.contact.row s.contact.x o)) (via_rect l (landing_of s))) (sym h.signal) (inl refl)))
via_covers l (meeting_of b z) h = covers Via l (via_rect l (meeting_of b z)) (of_bar b h.listed (contains_in (rects_on Via (flat_map (via_shapes b.y) b.vias)) (via_rect l (meeting_of b z)) (pieces_in Via (via_shapes b.y) b.vias z (via_rect l (meeting_of b z)) h.line (inl refl))))

-- ---- the links of a layout
pub pad_strap : (l : Layout) (w : IsLaid l) (n : IsNetted l) (c : Contact) → Contains l.contacts c → Together l n (pad c) (metal (strap_of c))
pad_strap l w n c h =
    let y : ℤ = centre l.frame c.row in
    let on : Holds (cut_rect l (node_of c)) (pos c.x) y = omega (arith, ints) in
    through l n (pad c) (metal (strap_of c)) h h (pos c.x) y (pad_around l.frame c.row c.x (pos c.x) y on) (strap_over l.frame w.tracks w.frame c.row c.x c.reach (pos c.x) y on) (by_contact refl (lower_row c.row) (cut_covers l (node_of c) h (pos c.x) y on))

pub strap_branch : (l : Layout) (w : IsLaid l) (n : IsNetted l) (s : Signal) → IsSignal l s → Together l n (metal (strap_of s.contact)) (branch s)
strap_branch l w n s h =
    let c : Contact = s.contact in
    let y : ℤ = landing l.frame c.row in
    let on : Holds (via_rect l (landing_of s)) (pos c.x) y = omega (arith, ints) in
    through l n (metal (strap_of c)) (branch s) h.listed h (pos c.x) y
    (subst (λ o. Holds (strap l.frame c.row c.x o).rect (pos c.x) y) (sym h.signal) (landing_strap l.frame w.tracks w.frame c.row c.x s.reach (pos c.x) y on))
    (landing_branch l.frame c.row c.x s.reach (reach_in l w s h) (pos c.x) y on)
    (by_via refl refl (via_covers l (landing_of s) h (pos c.x) y on))

pub branch_bar : (l : Layout) (w : IsLaid l) (n : IsNetted l) (s : Signal) → IsSignal l s → (r : Reaches l s.contact s.reach) → Together l n (branch s) (metal (bar_of r.bar))
branch_bar l w n s h r =
    let c : Contact = s.contact in
    let b : Bar = r.bar in
    let m : IsMet l b c.x = w.vias b c.x r.listed r.via in
    let left : b.left ≤ c.x = m.left in
    let right : c.x ≤ b.right = m.right in
    let z : IsMeeting l b c.x = record { listed = r.listed; line = r.via } in
    back l n (metal (bar_of b)) (branch s)
    (through l n (metal (bar_of b)) (branch s) r.listed h (pos c.x) (pos b.y) (omega (arith, ints))
    (branch_meets l.frame c.row c.x s.reach b.y (bar_in l w b r.listed) r.goes (pos c.x) (pos b.y) (omega (arith, ints)) (omega (arith, ints)) (omega (arith, ints)) (omega (arith, ints)))
    (by_via refl refl (via_covers l (meeting_of b c.x) z (pos c.x) (pos b.y) (omega (arith, ints)))))

-- a cell of a gate's strip and of its pad
record MeetsPad (f : Frame) (x t : ℕ) (n p : Option ℕ) : Type 0 where
  y : ℤ
  on_strip : Holds (strip_at f x n p (Some t)).rect (pos x) y
  on_pad : Holds (pad_at x t).rect (pos x) y

meets_pad : (f : Frame) (k : ℕ) → IsFrame f k → (x t : ℕ) (n p : Option ℕ) → InChannel f t → HasFinger n p → MeetsPad f x t n p
meets_pad f k fr x t None None c has = absurd has
meets_pad f k fr x t (Some u) None c has = record { y = pos t -ℤ pos 1; on_strip = omega (arith, ints); on_pad = omega (arith, ints) }
meets_pad f k fr x t None (Some v) c has = record { y = pos t; on_strip = omega (arith, ints); on_pad = omega (arith, ints) }
meets_pad f k fr x t (Some u) (Some v) c has = record { y = pos t; on_strip = omega (arith, ints); on_pad = omega (arith, ints) }

pub strip_pad : (l : Layout) (w : IsLaid l) (n : IsNetted l) (g : Gate) (t : ℕ) → IsPad l g t → Together l n (gate (strip_of g)) (gate (pad_of g t))
strip_pad l w n g t h =
    let m : MeetsPad l.frame g.x t g.n g.p = meets_pad l.frame w.tracks w.frame g.x t g.n g.p (pad_inside l w g t h) (gate_is l w g h.listed).finger in
    shared l n (gate (strip_of g)) (gate (pad_of g t)) h.listed h refl (pos g.x) m.y (subst (λ o. Holds (strip_at l.frame g.x g.n g.p o).rect (pos g.x) m.y) (sym h.track) m.on_strip) m.on_pad

pub pad_bar : (l : Layout) (w : IsLaid l) (n : IsNetted l) (g : Gate) (t : ℕ) → IsPad l g t → (on : IsOnBar l g.net g.x t) → Together l n (gate (pad_of g t)) (metal (bar_of on.bar))
pad_bar l w n g t h on =
    let left : on.bar.left ≤ g.x = on.left in
    let right : g.x ≤ on.bar.right = on.right in
    let track : on.bar.y ≡ t = on.track in
    through l n (gate (pad_of g t)) (metal (bar_of on.bar)) h on.listed (pos g.x) (pos t) (omega (arith, ints)) (omega (arith, ints)) (by_contact refl of_poly (cut_covers l (gate_of g t) h (pos g.x) (pos t) (omega (arith, ints))))

gnd_meets : (f : Frame) (k : ℕ) → IsFrame f k → (x : ℕ) → Holds (strap f N x None).rect (pos x) (pos 15 +ℤ pos 1)
gnd_meets f k fr x = omega (arith, ints)

vdd_meets : (f : Frame) (k : ℕ) → IsFrame f k → (x : ℕ) → Holds (strap f P x None).rect (pos x) (pos (f.p_edge + f.p_height + 7))
vdd_meets f k fr x = omega (arith, ints)

pub gnd_strap : (l : Layout) (w : IsLaid l) (n : IsNetted l) (c : Contact) → Contains l.contacts c → c.reach ≡ None → c.row ≡ N → Together l n (metal (strap_of c)) (metal gnd)
gnd_strap l w n c h none e =
    let i : IsInside l.frame c.x = inside_of l w c h in
    let on : Holds (strap l.frame c.row c.x c.reach).rect (pos c.x) (pos 15 +ℤ pos 1) = subst (λ r. Holds (strap l.frame r c.x c.reach).rect (pos c.x) (pos 15 +ℤ pos 1)) (sym e) (subst (λ o. Holds (strap l.frame N c.x o).rect (pos c.x) (pos 15 +ℤ pos 1)) (sym none) (gnd_meets l.frame w.tracks w.frame c.x)) in
    back l n (metal gnd) (metal (strap_of c)) (stacked l n (metal gnd) (metal (strap_of c)) tt h refl (pos c.x) (pos 15) (omega (arith, ints)) on)

pub vdd_strap : (l : Layout) (w : IsLaid l) (n : IsNetted l) (c : Contact) → Contains l.contacts c → c.reach ≡ None → c.row ≡ P → Together l n (metal (strap_of c)) (metal vdd)
vdd_strap l w n c h none e =
    let i : IsInside l.frame c.x = inside_of l w c h in
    let y : ℤ = pos (l.frame.p_edge + l.frame.p_height + 7) in
    let on : Holds (strap l.frame c.row c.x c.reach).rect (pos c.x) y = subst (λ r. Holds (strap l.frame r c.x c.reach).rect (pos c.x) y) (sym e) (subst (λ o. Holds (strap l.frame P c.x o).rect (pos c.x) y) (sym none) (vdd_meets l.frame w.tracks w.frame c.x)) in
    stacked l n (metal (strap_of c)) (metal vdd) h tt refl (pos c.x) y on (omega (arith, ints))

-- a cell of a half's end and of the pad there
record MeetsHalf (f : Frame) (row : Row) (s : Strip) (z x : ℕ) (e : End) : Type 0 where
  u : ℤ
  v : ℤ
  on_pad : Holds (pad_in f row x).rect u v
  on_half : Holds (half_in f row s z e) u v

meets_half : (f : Frame) (row : Row) (s : Strip) (z x : ℕ) (e : End) → s.left + 8 ≤ z → z + 8 ≤ s.right → 6 ≤ s.width → x ≡ end_x e s → MeetsHalf f row s z x e
meets_half f N s z x left_end a b wide at = record { u = pos s.left; v = pos f.n_edge -ℤ pos 1; on_pad = omega (arith, ints); on_half = omega (arith, ints) }
meets_half f N s z x right_end a b wide at = record { u = pos s.right -ℤ pos 1; v = pos f.n_edge -ℤ pos 1; on_pad = omega (arith, ints); on_half = omega (arith, ints) }
meets_half f P s z x left_end a b wide at = record { u = pos s.left; v = pos f.p_edge; on_pad = omega (arith, ints); on_half = omega (arith, ints) }
meets_half f P s z x right_end a b wide at = record { u = pos s.right -ℤ pos 1; v = pos f.p_edge; on_pad = omega (arith, ints); on_half = omega (arith, ints) }

pub half_pad : (l : Layout) (w : IsLaid l) (n : IsNetted l) (s : Strip) (e : End) → Contains l.strips s → (c : HasContact l s.row (end_x e s)) → Together l n (half s e) (pad c.contact)
half_pad l w n s e h c =
    let o : IsOver s (n.over s) = (n.gated s h).1 in
    let m : MeetsHalf l.frame s.row s (n.over s).x c.contact.x e = meets_half l.frame s.row s (n.over s).x c.contact.x e o.left o.right (strip_is l w s h).least c.at_x in
    shared l n (half s e) (pad c.contact) h c.listed (ap (λ r. diffusion_of r) (sym c.in_row)) m.u m.v m.on_half (subst (λ r. Holds (pad_in l.frame r c.contact.x).rect m.u m.v) (sym c.in_row) m.on_pad)

-- a cell of a half and the cell behind it of the next
record MeetsNext (f : Frame) (row : Row) (s t : Strip) (x z : ℕ) : Type 0 where
  u : ℤ
  v : ℤ
  on_left : Holds (half_in f row s x right_end) u v
  on_right : Holds (half_in f row t z left_end) (u +ℤ pos 1) v

meets_next : (f : Frame) (row : Row) (s t : Strip) (x z : ℕ) → x + 8 ≤ s.right → t.left + 8 ≤ z → 6 ≤ s.width → 6 ≤ t.width → s.right ≡ t.left → MeetsNext f row s t x z
meets_next f N s t x z a b wide also at = record { u = pos s.right -ℤ pos 1; v = pos f.n_edge -ℤ pos 1; on_left = omega (arith, ints); on_right = omega (arith, ints) }
meets_next f P s t x z a b wide also at = record { u = pos s.right -ℤ pos 1; v = pos f.p_edge; on_left = omega (arith, ints); on_right = omega (arith, ints) }

pub next_halves : (l : Layout) (w : IsLaid l) (n : IsNetted l) (s t : Strip) → Contains l.strips s → Contains l.strips t → s.row ≡ t.row → s.right ≡ t.left → Together l n (half s right_end) (half t left_end)
next_halves l w n s t hs ht rows at =
    let o : IsOver s (n.over s) = (n.gated s hs).1 in
    let p : IsOver t (n.over t) = (n.gated t ht).1 in
    let m : MeetsNext l.frame s.row s t (n.over s).x (n.over t).x = meets_next l.frame s.row s t (n.over s).x (n.over t).x o.right p.left (strip_is l w s hs).least (strip_is l w t ht).least at in
    abreast l n (half s right_end) (half t left_end) hs ht (ap (λ r. diffusion_of r) rows) m.u m.v m.on_left (subst (λ r. Holds (half_in l.frame r t (n.over t).x left_end) (m.u +ℤ pos 1) m.v) rows m.on_right)
