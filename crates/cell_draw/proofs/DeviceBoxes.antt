-- The classes of gate cells of a layout are the boxes where gates cross fingers.
use Rattle.std.proofs.Common.{◌∷◌, ◌≡◌, ℕ, zero, suc, ◌+◌, ◌≤◌, ℤ, pos, ◌≤ℤ◌, ◌<ℤ◌, ◌+ℤ◌, ◌-ℤ◌, arith, inl, inr, sym, ap, subst, []}
use Rattle.std.specs.List.{Contains}
use Rattle.std.proofs.lemmas.Int.{ints}
use Rattle.cell_num.specs.declared.finger.Row.{Row}
use Rattle.cell_num.specs.declared.finger.Row.TheVariants.{P, N}
use Rattle.cell_num.proofs.Lists.{contains_one, contains_here}
use Rattle.box_geom.specs.Rectangle.{Rectangle, IsProper, Holds, Covers}
use Rattle.box_geom.specs.Touching.{Cell, Edge, to_right, to_left, upward, downward}
use Rattle.box_geom.specs.Chains.{Steps, Linked}
use Rattle.scmos_rules.specs.Failing.{SameClass}
use Rattle.scmos_rules.specs.Layout.{Gate as GateCell}
use Rattle.scmos_rules.proofs.Chains.{inside}
use Rattle.net_extract.specs.Devices.{IsGateBox}
use Rattle.cell_draw.specs.declared.layout.Frame.{Frame}
use Rattle.cell_draw.specs.declared.layout.Strip.{Strip}
use Rattle.cell_draw.specs.declared.layout.Gate.{Gate}
use Rattle.cell_draw.specs.declared.layout.Layout.{Layout}
use Rattle.cell_draw.specs.Shapes.{finger_low, finger_high, shapes_of}
use Rattle.cell_draw.specs.Laid.{IsFrame, Follows, IsLaid}
use Rattle.cell_draw.proofs.NetsDrawn.{gate_covers}
use Rattle.cell_draw.proofs.NetsFacts.{IsOver, IsNetted}
use Rattle.cell_draw.proofs.RulesActive.{finger_of, finger_in, area_rect, strip_is}
use Rattle.cell_draw.proofs.RulesCovers.{area_covers}
use Rattle.cell_draw.proofs.RulesGates.{AtCrossing, crossing}
use Rattle.cell_draw.proofs.RulesPlaces.{TwoStrips, one_strip, after, before, n_under_p, p_over_n, two_strips}

-- where a gate at x crosses a finger
abbrev pub box_in : Frame → Row → Strip → ℕ → Rectangle
box_in f row s x = record { x1 = pos x -ℤ pos 2; y1 = finger_low f row s.width; x2 = pos x +ℤ pos 2; y2 = finger_high f row s.width }

abbrev pub box_of : (l : Layout) → IsNetted l → Strip → Rectangle
box_of l n s = box_in l.frame s.row s (n.over s).x

in_finger : (f : Frame) (row : Row) (s : Strip) (z : ℕ) → s.left + 8 ≤ z → z + 8 ≤ s.right → (x y : ℤ) → Holds (box_in f row s z) x y → Holds (finger_in f row s).rect x y
in_finger f N s z a b x y h = omega (arith, ints)
in_finger f P s z a b x y h = omega (arith, ints)

pub box_finger : (l : Layout) (n : IsNetted l) (s : Strip) → Contains l.strips s → (x y : ℤ) → Holds (box_of l n s) x y → Holds (area_rect l (finger_of s)) x y
box_finger l n s there x y h = let o = (n.gated s there).1 in in_finger l.frame s.row s (n.over s).x o.left o.right x y h

pub box_gate : (l : Layout) (w : IsLaid l) (n : IsNetted l) (s : Strip) → Contains l.strips s → (x y : ℤ) → Holds (box_of l n s) x y → GateCell (shapes_of l) x y
box_gate l w n s there x y h =
    let o = n.gated s there in
    let on : Holds (area_rect l (finger_of s)) x y = box_finger l n s there x y h in
    (area_covers l (finger_of s) there x y on, gate_covers l w s (n.over s) there o.0 o.1 x y on h.left h.right)

-- the box that a gate cell lies in
pub record InBox (l : Layout) (n : IsNetted l) (x y : ℤ) : Type 0 where
  pub strip : Strip
  pub listed : Contains l.strips strip
  pub holds : Holds (box_of l n strip) x y

to_box : (f : Frame) (row : Row) (s : Strip) (z : ℕ) (x y : ℤ) → Holds (finger_in f row s).rect x y → (pos z -ℤ pos 2) ≤ℤ x → x <ℤ (pos z +ℤ pos 2) → Holds (box_in f row s z) x y
to_box f N s z x y h a b = omega (arith, ints)
to_box f P s z x y h a b = omega (arith, ints)

pub in_box : (l : Layout) (w : IsLaid l) (n : IsNetted l) (x y : ℤ) → GateCell (shapes_of l) x y → InBox l n x y
in_box l w n x y g =
    let c : AtCrossing l x y x y = crossing l w x y x y g.0 g.1 (omega (arith, ints)) in
    let same : c.at.gate.x ≡ (n.over c.at.strip).x = ap (λ (z : Gate). z.x) (n.one_gate c.at.strip c.at.gate c.at.is_strip c.at.is_gate (record { left = c.at.left; right = c.at.right })) in
    let k = c.on_gate in
    record { strip = c.at.strip; listed = c.at.is_strip; holds = to_box l.frame c.at.strip.row c.at.strip (n.over c.at.strip).x x y c.on_strip (omega (arith, ints, same)) (omega (arith, ints, same)) }

-- two cells at most one apart
record AreNext (x y u v : ℤ) : Type 0 where
  left : x ≤ℤ (u +ℤ pos 1)
  right : u ≤ℤ (x +ℤ pos 1)
  low : y ≤ℤ (v +ℤ pos 1)
  high : v ≤ℤ (y +ℤ pos 1)

next_of : (a b : Cell) → Edge a b → AreNext a.x a.y b.x b.y
next_of a b (to_right x y) = record { left = omega (arith, ints, x, y); right = omega (arith, ints, x, y); low = omega (arith, ints, x, y); high = omega (arith, ints, x, y) }
next_of a b (to_left x y) = record { left = omega (arith, ints, x, y); right = omega (arith, ints, x, y); low = omega (arith, ints, x, y); high = omega (arith, ints, x, y) }
next_of a b (upward x y) = record { left = omega (arith, ints, x, y); right = omega (arith, ints, x, y); low = omega (arith, ints, x, y); high = omega (arith, ints, x, y) }
next_of a b (downward x y) = record { left = omega (arith, ints, x, y); right = omega (arith, ints, x, y); low = omega (arith, ints, x, y); high = omega (arith, ints, x, y) }

apart : (f : Frame) (k : ℕ) → IsFrame f k → (s t : Strip) (z u : ℕ) (x y p q : ℤ) → Holds (box_in f N s z) x y → Holds (box_in f P t u) p q → AreNext x y p q → ⊥
apart f k fr s t z u x y p q h i e = omega (arith, ints)

-- neighbouring cells of boxes are of one
one_box : (l : Layout) (w : IsLaid l) (n : IsNetted l) (s t : Strip) → Contains l.strips s → Contains l.strips t → (x y u v : ℤ) → Holds (box_of l n s) x y → Holds (box_of l n t) u v → AreNext x y u v → s ≡ t
one_box l w n s t hs ht x y u v h i e = by (two_strips l w s t hs ht)
  where
    a : IsOver s (n.over s)
    a = (n.gated s hs).1

    b : IsOver t (n.over t)
    b = (n.gated t ht).1

    far : (c d : Strip) → IsOver c (n.over c) → IsOver d (n.over d) → Follows c d → ((n.over c).x + 12 ≤ (n.over d).x)
    far c d o p (inl z) = omega (arith, o.right, p.left, z)
    far c d o p (inr z) = omega (arith, o.right, p.left, z)

    turned : AreNext u v x y
    turned = record { left = e.right; right = e.left; low = e.high; high = e.low }

    by : TwoStrips s t → s ≡ t
    by (one_strip is) = is
    by (after rows next) = let gap = far s t a b next in absurd (omega (arith, ints))
    by (before rows next) = let gap = far t s b a next in absurd (omega (arith, ints))
    by (n_under_p r q) = absurd (apart l.frame w.tracks w.frame s t (n.over s).x (n.over t).x x y u v (subst (λ z. Holds (box_in l.frame z s (n.over s).x) x y) r h) (subst (λ z. Holds (box_in l.frame z t (n.over t).x) u v) q i) e)
    by (p_over_n r q) = absurd (apart l.frame w.tracks w.frame t s (n.over t).x (n.over s).x u v x y (subst (λ z. Holds (box_in l.frame z t (n.over t).x) u v) q i) (subst (λ z. Holds (box_in l.frame z s (n.over s).x) x y) r h) turned)

-- a chain of gate cells stays in its box
stays : (l : Layout) (w : IsLaid l) (n : IsNetted l) (s : Strip) → Contains l.strips s → (count : ℕ) (a b : Cell) → Holds (box_of l n s) a.x a.y → Steps (Linked (GateCell (shapes_of l))) count a b → Holds (box_of l n s) b.x b.y
stays l w n s hs zero a b h e = subst (λ (c : Cell). Holds (box_of l n s) c.x c.y) e h
stays l w n s hs (suc count) a b h (c, link, rest) =
    let i : InBox l n c.x c.y = in_box l w n c.x c.y link.to in
    let same : s ≡ i.strip = one_box l w n s i.strip hs i.listed a.x a.y c.x c.y h i.holds (next_of a c link.edge) in
    stays l w n s hs count c b (subst (λ t. Holds (box_of l n t) c.x c.y) (sym same) i.holds) rest

carried : {X : Type 0} (S T : X → X → Type 0) → ((a b : X) → S a b → T a b) → (count : ℕ) (a b : X) → Steps S count a b → Steps T count a b
carried S T step zero a b e = e
carried S T step (suc count) a b (m, s, r) = (m, step a m s, carried S T step count m b r)

in_one : (r : Rectangle) (x y : ℤ) → Covers (r ∷ []) x y → Holds r x y
in_one r x y c = subst (λ z. Holds z x y) (sym (contains_one r c.rect c.listed)) c.holds

-- the cells of a box hang together
spread : (l : Layout) (w : IsLaid l) (n : IsNetted l) (s : Strip) → Contains l.strips s → (x y u v : ℤ) → Holds (box_of l n s) x y → Holds (box_of l n s) u v → SameClass (GateCell (shapes_of l)) x y u v
spread l w n s there x y u v h i =
    let r : Rectangle = box_of l n s in
    let c = inside (r ∷ []) r (contains_here r []) x y u v h i in
    record { count = c.count; steps = carried (Linked (Covers (r ∷ []))) (Linked (GateCell (shapes_of l))) (λ a b k. record { from = box_gate l w n s there a.x a.y (in_one r a.x a.y k.from); to = box_gate l w n s there b.x b.y (in_one r b.x b.y k.to); edge = k.edge }) c.count (record { x = x; y = y }) (record { x = u; y = v }) c.steps }

box_proper : (f : Frame) (row : Row) (s : Strip) (z : ℕ) → 6 ≤ s.width → IsProper (box_in f row s z)
box_proper f N s z wide = omega (arith, ints)
box_proper f P s z wide = omega (arith, ints)

pub gate_box : (l : Layout) (w : IsLaid l) (n : IsNetted l) (s : Strip) → Contains l.strips s → IsGateBox (shapes_of l) (box_of l n s)
gate_box l w n s there = record {
  proper = box_proper l.frame s.row s (n.over s).x (strip_is l w s there).least;
  gate = λ x y h. box_gate l w n s there x y h;
  class = λ x y u v h. (λ c. stays l w n s there c.count (record { x = x; y = y }) (record { x = u; y = v }) h c.steps, λ i. spread l w n s there x y u v h i);
}
