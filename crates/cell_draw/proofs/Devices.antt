-- The gates over fingers are the devices of a layout.
use Rattle.std.proofs.Common.{◌≡◌, ℕ, ◌+◌, ◌≤◌, ℤ, pos, ◌≤ℤ◌, ◌<ℤ◌, ◌+ℤ◌, ◌-ℤ◌, arith, inl, inr, ◌⊎◌, refl, sym, subst}
use Rattle.std.specs.List.{Contains}
use Rattle.std.proofs.lemmas.Int.{ints}
use Rattle.cell_num.specs.declared.finger.Row.{Row}
use Rattle.cell_num.specs.declared.finger.Row.TheVariants.{P, N}
use Rattle.box_geom.specs.Rectangle.{Rectangle, IsProper, Holds}
use Rattle.scmos_rules.specs.declared.rules.Deck.TheVariants.{Plain}
use Rattle.net_extract.specs.Nets.{Site, site_at}
use Rattle.net_extract.specs.declared.piece.Conductor.TheVariants.{Poly}
use Rattle.net_extract.specs.Devices.{IsGateBox, diffusion_of, left_of, right_of, below, above, IsSide, IsClosed, IsSize, IsDevice}
use Rattle.cell_draw.specs.declared.layout.Frame.{Frame}
use Rattle.cell_draw.specs.declared.layout.Strip.{Strip}
use Rattle.cell_draw.specs.declared.layout.Contact.{Contact}
use Rattle.cell_draw.specs.declared.layout.Gate.{Gate}
use Rattle.cell_draw.specs.declared.layout.Layout.{Layout}
use Rattle.cell_draw.specs.Shapes.{finger_low, finger_high, shapes_of}
use Rattle.cell_draw.specs.Laid.{IsFrame, Follows, IsLaid}
use Rattle.cell_draw.proofs.NetsDrawn.{conducts, side_well, strip_side, over_ends}
use Rattle.cell_draw.proofs.NetsFacts.{End, left_end, right_end, IsOver, IsNetted}
use Rattle.cell_draw.proofs.NetsWhole.{nets}
use Rattle.cell_draw.proofs.NetsWires.{half, gate, half_in, half_rect}
use Rattle.cell_draw.proofs.RulesActive.{Area, finger_of, finger_in, IsArea, area_rect, strip_is}
use Rattle.cell_draw.proofs.RulesActive as area
use Rattle.cell_draw.proofs.RulesCovers.{area_held}
use Rattle.cell_draw.proofs.RulesPlaces.{TwoStrips, one_strip, after, before, n_under_p, p_over_n, two_strips}
use Rattle.cell_draw.proofs.RulesPoly.{strip_of, piece_rect}
use Rattle.cell_draw.proofs.DeviceBoxes.{box_in, box_of, box_finger, gate_box}
use Rattle.net_extract.specs.declared.side.Current.TheVariants.{Rightward}

-- ---- the sides
left_side : (f : Frame) (row : Row) (s : Strip) (z : ℕ) → s.left + 8 ≤ z → (x y : ℤ) → Holds (left_of (box_in f row s z)) x y → Holds (half_in f row s z left_end) x y
left_side f N s z a x y h = omega (arith, ints)
left_side f P s z a x y h = omega (arith, ints)

right_side : (f : Frame) (row : Row) (s : Strip) (z : ℕ) → z + 8 ≤ s.right → (x y : ℤ) → Holds (right_of (box_in f row s z)) x y → Holds (half_in f row s z right_end) x y
right_side f N s z a x y h = omega (arith, ints)
right_side f P s z a x y h = omega (arith, ints)

-- cells of one half are in one net
half_side : (l : Layout) (w : IsLaid l) (n : IsNetted l) (s : Strip) (e : End) → Contains l.strips s → (strip : Rectangle) (u v : ℤ) → ((x y : ℤ) → Holds strip x y → Holds (half_rect l n s e) x y) → Holds strip u v → IsSide Plain (shapes_of l) (diffusion_of s.row) strip (site_at (diffusion_of s.row) u v)
half_side l w n s e there strip u v sub first = record {
  conducts = conducts l w n (half s e) there u v (sub u v first);
  side = λ x y h. (
    conducts l w n (half s e) there x y (sub x y h),
    (nets l w n (half s e) (half s e) (site_at (diffusion_of s.row) u v) (site_at (diffusion_of s.row) x y) there there (record { kind = refl; holds = sub u v first }) (record { kind = refl; holds = sub x y h })).1 refl,
  );
}

-- no active lies past the ends of a box
pads_clear : (l : Layout) (w : IsLaid l) (c : Contact) (g : Gate) → Contains l.contacts c → Contains l.gates g → (x y : ℤ) → Holds (area_rect l (area.pad_of c)) x y → (pos g.x -ℤ pos 2) ≤ℤ x → x <ℤ (pos g.x +ℤ pos 2) → ⊥
pads_clear l w c g hc hg x y h a b = elim (w.beside c g hc hg) [ inl far ↦ omega (arith, ints) | inr far ↦ omega (arith, ints) ]

-- just below or just above the finger
abbrev IsPast : Frame → Row → Strip → ℤ → Type 0
IsPast f row s y = ((y +ℤ pos 1) ≡ finger_low f row s.width) ⊎ (y ≡ finger_high f row s.width)

past_own : (f : Frame) (row : Row) (s : Strip) (x y : ℤ) → 6 ≤ s.width → Holds (finger_in f row s).rect x y → IsPast f row s y → ⊥
past_own f N s x y wide h (inl e) = omega (arith, ints)
past_own f N s x y wide h (inr e) = omega (arith, ints)
past_own f P s x y wide h (inl e) = omega (arith, ints)
past_own f P s x y wide h (inr e) = omega (arith, ints)

past_n : (f : Frame) (k : ℕ) → IsFrame f k → (s t : Strip) (x y : ℤ) → Holds (finger_in f P t).rect x y → IsPast f N s y → ⊥
past_n f k fr s t x y h (inl e) = omega (arith, ints)
past_n f k fr s t x y h (inr e) = omega (arith, ints)

past_p : (f : Frame) (k : ℕ) → IsFrame f k → (s t : Strip) (x y : ℤ) → Holds (finger_in f N t).rect x y → IsPast f P s y → ⊥
past_p f k fr s t x y h (inl e) = omega (arith, ints)
past_p f k fr s t x y h (inr e) = omega (arith, ints)

past_next : (s t : Strip) (g : Gate) (x : ℤ) → IsOver s g → Follows s t → pos t.left ≤ℤ x → x <ℤ (pos g.x +ℤ pos 2) → ⊥
past_next s t g x o (inl e) a b = let r = o.right in omega (arith, ints)
past_next s t g x o (inr e) a b = let r = o.right in omega (arith, ints)

past_last : (s t : Strip) (g : Gate) (x : ℤ) → IsOver s g → Follows t s → x <ℤ pos t.right → (pos g.x -ℤ pos 2) ≤ℤ x → ⊥
past_last s t g x o (inl e) a b = let r = o.left in omega (arith, ints)
past_last s t g x o (inr e) a b = let r = o.left in omega (arith, ints)

past_finger : (l : Layout) (w : IsLaid l) (n : IsNetted l) (s t : Strip) → Contains l.strips s → Contains l.strips t → (x y : ℤ) → Holds (area_rect l (finger_of t)) x y → (pos (n.over s).x -ℤ pos 2) ≤ℤ x → x <ℤ (pos (n.over s).x +ℤ pos 2) → IsPast l.frame s.row s y → ⊥
past_finger l w n s t hs ht x y h a b past = by (two_strips l w s t hs ht)
  where
    o : IsOver s (n.over s)
    o = (n.gated s hs).1

    by : TwoStrips s t → ⊥
    by (one_strip e) = past_own l.frame s.row s x y (strip_is l w s hs).least (subst (λ z. Holds (area_rect l (finger_of z)) x y) (sym e) h) past
    by (after rows next) = past_next s t (n.over s) x o next h.left b
    by (before rows next) = past_last s t (n.over s) x o next h.right a
    by (n_under_p r q) = past_n l.frame w.tracks w.frame s t x y (subst (λ z. Holds (finger_in l.frame z t).rect x y) q h) (subst (λ z. IsPast l.frame z s y) r past)
    by (p_over_n r q) = past_p l.frame w.tracks w.frame s t x y (subst (λ z. Holds (finger_in l.frame z t).rect x y) q h) (subst (λ z. IsPast l.frame z s y) r past)

past_area : (l : Layout) (w : IsLaid l) (n : IsNetted l) (s : Strip) (a : Area) → Contains l.strips s → IsArea l a → (x y : ℤ) → Holds (area_rect l a) x y → (pos (n.over s).x -ℤ pos 2) ≤ℤ x → x <ℤ (pos (n.over s).x +ℤ pos 2) → IsPast l.frame s.row s y → ⊥
past_area l w n s (finger_of t) hs there x y h a b past = past_finger l w n s t hs there x y h a b past
past_area l w n s (area.pad_of c) hs there x y h a b past = pads_clear l w c (n.over s) there (n.gated s hs).0 x y h a b

closed : (l : Layout) (w : IsLaid l) (n : IsNetted l) (s : Strip) → Contains l.strips s → (strip : Rectangle) → ((x y : ℤ) → Holds strip x y → ((pos (n.over s).x -ℤ pos 2) ≤ℤ x) × (x <ℤ (pos (n.over s).x +ℤ pos 2)) × IsPast l.frame s.row s y) → IsClosed (shapes_of l) strip
closed l w n s there strip past = record {
  closed = λ x y h on.
      let a = area_held l x y on in
      let z = past x y h in
      past_area l w n s a.piece there a.listed x y a.holds z.0 z.1 z.2;
}

below_past : (f : Frame) (row : Row) (s : Strip) (z : ℕ) (x y : ℤ) → Holds (below (box_in f row s z)) x y → (y +ℤ pos 1) ≡ finger_low f row s.width
below_past f row s z x y h = omega (arith, ints)

above_past : (f : Frame) (row : Row) (s : Strip) (z : ℕ) (x y : ℤ) → Holds (above (box_in f row s z)) x y → y ≡ finger_high f row s.width
above_past f row s z x y h = omega (arith, ints)

tall : (f : Frame) (row : Row) (width : ℕ) → finger_high f row width ≡ finger_low f row width +ℤ pos width
tall f N width = omega (arith, ints)
tall f P width = omega (arith, ints)

size_of : (f : Frame) (row : Row) (s : Strip) (z : ℕ) → IsSize Rightward (box_in f row s z) s.width 4
size_of f row s z = record { across = λ e. (tall f row s.width, omega (arith, ints)); upright = λ e. absurd cc }

-- the sites of a device: in its gate, to its left and to its right
abbrev pub gate_site : (l : Layout) → IsNetted l → Strip → Site
gate_site l n s = site_at Poly (box_of l n s).x1 (box_of l n s).y1

abbrev pub side_site : (l : Layout) → IsNetted l → Strip → End → Site
side_site l n s left_end = site_at (diffusion_of s.row) ((box_of l n s).x1 -ℤ pos 1) (box_of l n s).y1
side_site l n s right_end = site_at (diffusion_of s.row) (box_of l n s).x2 (box_of l n s).y1

corner : (r : Rectangle) → IsProper r → Holds r r.x1 r.y1
corner r p = omega (arith, ints)

left_corner : (r : Rectangle) → IsProper r → Holds (left_of r) (r.x1 -ℤ pos 1) r.y1
left_corner r p = omega (arith, ints)

right_corner : (r : Rectangle) → IsProper r → Holds (right_of r) r.x2 r.y1
right_corner r p = omega (arith, ints)

over_gate : (l : Layout) (w : IsLaid l) (s : Strip) (g : Gate) → Contains l.strips s → Contains l.gates g → IsOver s g → (x y : ℤ) → Holds (area_rect l (finger_of s)) x y → (pos g.x -ℤ pos 2) ≤ℤ x → x <ℤ (pos g.x +ℤ pos 2) → Holds (piece_rect l (strip_of g)) x y
over_gate l w s g hs hg o x y h left right = let e = over_ends l w s g hs hg o in omega (arith, ints)

-- the sites lie in the gate's poly and in the halves of the finger
pub gate_site_in : (l : Layout) (w : IsLaid l) (n : IsNetted l) (s : Strip) → Contains l.strips s → Holds (piece_rect l (strip_of (n.over s))) (box_of l n s).x1 (box_of l n s).y1
gate_site_in l w n s there =
    let o = n.gated s there in
    let c : Holds (box_of l n s) (box_of l n s).x1 (box_of l n s).y1 = corner (box_of l n s) (gate_box l w n s there).proper in
    over_gate l w s (n.over s) there o.0 o.1 (box_of l n s).x1 (box_of l n s).y1 (box_finger l n s there (box_of l n s).x1 (box_of l n s).y1 c) c.left c.right

pub left_site_in : (l : Layout) (w : IsLaid l) (n : IsNetted l) (s : Strip) → Contains l.strips s → Holds (half_rect l n s left_end) ((box_of l n s).x1 -ℤ pos 1) (box_of l n s).y1
left_site_in l w n s there = left_side l.frame s.row s (n.over s).x (n.gated s there).1.left ((box_of l n s).x1 -ℤ pos 1) (box_of l n s).y1 (left_corner (box_of l n s) (gate_box l w n s there).proper)

pub right_site_in : (l : Layout) (w : IsLaid l) (n : IsNetted l) (s : Strip) → Contains l.strips s → Holds (half_rect l n s right_end) (box_of l n s).x2 (box_of l n s).y1
right_site_in l w n s there = right_side l.frame s.row s (n.over s).x (n.gated s there).1.right (box_of l n s).x2 (box_of l n s).y1 (right_corner (box_of l n s) (gate_box l w n s there).proper)

-- a device whose current flows to the right
pub record FlowsRight (l : Layout) (n : IsNetted l) (s : Strip) : Type 0 where
  pub is : IsDevice Plain (shapes_of l) (box_of l n s) s.row (gate_site l n s) (side_site l n s left_end) (side_site l n s right_end) s.width 4
  pub current : is.current ≡ Rightward

-- each finger with its gate is a device
pub right_device : (l : Layout) (w : IsLaid l) (n : IsNetted l) (s : Strip) → Contains l.strips s → FlowsRight l n s
right_device l w n s there =
    let b : Rectangle = box_of l n s in
    let o = n.gated s there in
    let c : IsGateBox (shapes_of l) b = gate_box l w n s there in
    let d : IsDevice Plain (shapes_of l) (box_of l n s) s.row (gate_site l n s) (side_site l n s left_end) (side_site l n s right_end) s.width 4 = record {
      current = Rightward;
      class = c;
      of_row = λ x y h. side_well l w s.row x y (strip_side l w s there x y (box_finger l n s there x y h));
      gate_net = (nets l w n (gate (strip_of (n.over s))) (gate (strip_of (n.over s))) (gate_site l n s) (gate_site l n s) o.0 o.0 (record { kind = refl; holds = gate_site_in l w n s there }) (record { kind = refl; holds = gate_site_in l w n s there })).1 refl;
      left_side = half_side l w n s left_end there (left_of b) (b.x1 -ℤ pos 1) b.y1 (λ x y h. left_side l.frame s.row s (n.over s).x o.1.left x y h) (left_corner b c.proper);
      right_side = half_side l w n s right_end there (right_of b) b.x2 b.y1 (λ x y h. right_side l.frame s.row s (n.over s).x o.1.right x y h) (right_corner b c.proper);
      low = closed l w n s there (below b) (λ x y h. (h.left, h.right, inl (below_past l.frame s.row s (n.over s).x x y h)));
      high = closed l w n s there (above b) (λ x y h. (h.left, h.right, inr (above_past l.frame s.row s (n.over s).x x y h)));
      size = size_of l.frame s.row s (n.over s).x;
    } in
    record { is = d; current = refl }

pub device : (l : Layout) (w : IsLaid l) (n : IsNetted l) (s : Strip) → Contains l.strips s → IsDevice Plain (shapes_of l) (box_of l n s) s.row (gate_site l n s) (side_site l n s left_end) (side_site l n s right_end) s.width 4
device l w n s there = (right_device l w n s there).is
