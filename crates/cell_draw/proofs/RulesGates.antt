-- The rules on gates and field poly: poly goes on past each end of a gate, active past each side.
use Rattle.std.proofs.Common.{◌≡◌, ℕ, ◌+◌, ◌≤◌, ℤ, pos, ◌≤ℤ◌, ◌+ℤ◌, ◌-ℤ◌, Option, Some, None, arith, inl, inr, refl, sym, subst}
use Rattle.std.specs.List.{Contains}
use Rattle.std.proofs.lemmas.Int.{ints, by_lt_z}
use Rattle.cell_num.specs.declared.finger.Row.{Row}
use Rattle.cell_num.specs.declared.finger.Row.TheVariants.{P, N}
use Rattle.box_geom.specs.Rectangle.{Holds}
use Rattle.box_geom.specs.Near.{Near}
use Rattle.box_geom.specs.declared.layer.Layer.TheVariants.{Active, Poly}
use Rattle.scmos_rules.specs.declared.rules.Deck.TheVariants.{Plain}
use Rattle.scmos_rules.specs.declared.number.RuleNo.TheVariants.{N3_3, N3_4, N3_5}
use Rattle.box_geom.specs.Regions.{IsEmpty}
use Rattle.scmos_rules.specs.Rules.{Fails}
use Rattle.scmos_rules.specs.Layout.{On}
use Rattle.scmos_rules.specs.Gates.{Way, right, left, up, down, Ahead}
use Rattle.cell_draw.specs.declared.layout.Frame.{Frame}
use Rattle.cell_draw.specs.declared.layout.Strip.{Strip}
use Rattle.cell_draw.specs.declared.layout.Contact.{Contact}
use Rattle.cell_draw.specs.declared.layout.Gate.{Gate}
use Rattle.cell_draw.specs.declared.layout.Layout.{Layout}
use Rattle.cell_draw.specs.Shapes.{finger_low, finger_high, gate_low, gate_high, shapes_of}
use Rattle.cell_draw.specs.Laid.{IsFrame, Crosses, width_in, IsLaid}
use Rattle.cell_draw.proofs.RulesPlaces.{InChannel}
use Rattle.cell_draw.proofs.RulesActive.{Area, finger_of, IsArea, area_rect}
use Rattle.cell_draw.proofs.RulesActive as area
use Rattle.cell_draw.proofs.RulesPoly.{Piece, strip_of, IsPad, IsPiece, piece_rect, pad_in}
use Rattle.cell_draw.proofs.RulesPoly as poly
use Rattle.cell_draw.proofs.RulesCovers.{area_covers, poly_covers, area_held, poly_held}
use Rattle.cell_draw.proofs.RulesRows.{active_row}

-- Poly of a gate goes 4 past both ends of the finger of this width below it.
pub record GateEnds (f : Frame) (row : Row) (width : ℕ) (n p track : Option ℕ) : Type 0 where
  pub low : (gate_low f n track +ℤ pos 4) ≤ℤ finger_low f row width
  pub high : (finger_high f row width +ℤ pos 4) ≤ℤ gate_high f p track

high_end : (f : Frame) (k : ℕ) → IsFrame f k → (p track : Option ℕ) → ((y : ℕ) → track ≡ Some y → InChannel f y) → pos (f.n_edge + 4) ≤ℤ gate_high f p track
high_end f k fr (Some v) track t = omega (arith, ints)
high_end f k fr None (Some y) t = let c = t y refl in omega (arith, ints)
high_end f k fr None None t = omega (arith, ints)

low_end : (f : Frame) (k : ℕ) → IsFrame f k → (n track : Option ℕ) → ((y : ℕ) → track ≡ Some y → InChannel f y) → (gate_low f n track +ℤ pos 4) ≤ℤ pos f.p_edge
low_end f k fr (Some v) track t = omega (arith, ints)
low_end f k fr None (Some y) t = let c = t y refl in omega (arith, ints)
low_end f k fr None None t = omega (arith, ints)

pub gate_ends : (f : Frame) (k : ℕ) → IsFrame f k → (row : Row) (width : ℕ) (g : Gate) → width_in row g ≡ Some width → ((y : ℕ) → g.track ≡ Some y → InChannel f y) → GateEnds f row width g.n g.p g.track
gate_ends f k fr N width g e t =
    let h = high_end f k fr g.p g.track t in
    subst (λ o. GateEnds f N width o g.p g.track) (sym e) (record { low = omega (arith, ints); high = omega (arith, ints) })
gate_ends f k fr P width g e t =
    let h = low_end f k fr g.n g.track t in
    subst (λ o. GateEnds f P width g.n o g.track) (sym e) (record { low = omega (arith, ints); high = omega (arith, ints) })

-- a finger and the gate over it
pub record Crossing (l : Layout) : Type 0 where
  pub strip : Strip
  pub gate : Gate
  pub is_strip : Contains l.strips strip
  pub is_gate : Contains l.gates gate
  pub left : strip.left + 8 ≤ gate.x
  pub right : gate.x + 8 ≤ strip.right
  pub ends : GateEnds l.frame strip.row strip.width gate.n gate.p gate.track

-- an active cell at (u, v) and a poly cell at (x, y) are of a finger and of the gate over it
pub record AtCrossing (l : Layout) (u v x y : ℤ) : Type 0 where
  pub at : Crossing l
  pub on_strip : Holds (area_rect l (finger_of at.strip)) u v
  pub on_gate : Holds (piece_rect l (strip_of at.gate)) x y

over : (l : Layout) (w : IsLaid l) (s : Strip) (g : Gate) → Contains l.strips s → Contains l.gates g → (u v x y : ℤ) → Holds (area_rect l (finger_of s)) u v → Holds (piece_rect l (strip_of g)) x y → Near 2 x y u v → Crosses g s → AtCrossing l u v x y
over l w s g hs hg u v x y h k near (inl (before, behind, width)) = record {
  at = record {
    strip = s;
    gate = g;
    is_strip = hs;
    is_gate = hg;
    left = before;
    right = behind;
    ends = gate_ends l.frame w.tracks w.frame s.row s.width g width (λ t e. pad_in l w g t (record { listed = hg; track = e }));
  };
  on_strip = h;
  on_gate = k;
}
over l w s g hs hg u v x y h k near (inr (inl far)) = absurd (omega (arith, ints))
over l w s g hs hg u v x y h k near (inr (inr far)) = absurd (omega (arith, ints))

pad_far : (l : Layout) (w : IsLaid l) (g : Gate) (t : ℕ) → IsPad l g t → (u v x y : ℤ) → On Active (shapes_of l) u v → Holds (piece_rect l (poly.pad_of g t)) x y → Near 2 x y u v → ⊥
pad_far l w g t h u v x y a k near =
    let c = pad_in l w g t h in
    elim (active_row l w u v a) [ inl n ↦ omega (arith, ints) | inr p ↦ omega (arith, ints) ]

contact_far : (l : Layout) (w : IsLaid l) (c : Contact) (g : Gate) → Contains l.contacts c → Contains l.gates g → (u v x y : ℤ) → Holds (area_rect l (area.pad_of c)) u v → Holds (piece_rect l (strip_of g)) x y → Near 2 x y u v → ⊥
contact_far l w c g hc hg u v x y h k near = elim (w.beside c g hc hg) [ inl far ↦ omega (arith, ints) | inr far ↦ omega (arith, ints) ]

crossing_by : (l : Layout) (w : IsLaid l) (u v x y : ℤ) → On Active (shapes_of l) u v → Near 2 x y u v → (a : Area) (p : Piece) → IsArea l a → IsPiece l p → Holds (area_rect l a) u v → Holds (piece_rect l p) x y → AtCrossing l u v x y
crossing_by l w u v x y on near (finger_of s) (strip_of g) ha hp h k = over l w s g ha hp u v x y h k near (w.over g s hp ha)
crossing_by l w u v x y on near (area.pad_of c) (strip_of g) ha hp h k = absurd (contact_far l w c g ha hp u v x y h k near)
crossing_by l w u v x y on near a (poly.pad_of g t) ha hp h k = absurd (pad_far l w g t hp u v x y on k near)

-- An active cell within 2 of a poly cell is of the finger that the poly's gate crosses.
pub crossing : (l : Layout) (w : IsLaid l) (u v x y : ℤ) → On Active (shapes_of l) u v → On Poly (shapes_of l) x y → Near 2 x y u v → AtCrossing l u v x y
crossing l w u v x y a p near =
    let s = area_held l u v a in
    let g = poly_held l x y p in
    crossing_by l w u v x y a near s.piece g.piece s.listed g.listed s.holds g.holds

strip_on : (l : Layout) (c : Crossing l) (x y : ℤ) → Holds (area_rect l (finger_of c.strip)) x y → On Active (shapes_of l) x y
strip_on l c = area_covers l (finger_of c.strip) c.is_strip

gate_on : (l : Layout) (c : Crossing l) (x y : ℤ) → Holds (piece_rect l (strip_of c.gate)) x y → On Poly (shapes_of l) x y
gate_on l c = poly_covers l (strip_of c.gate) c.is_gate

-- past an open end of a gate its poly goes on
poly_end : (l : Layout) (c : Crossing l) (x y : ℤ) → Holds (area_rect l (finger_of c.strip)) x y → Holds (piece_rect l (strip_of c.gate)) x y → (way : Way) → (Ahead (On Active (shapes_of l)) way 1 x y → ⊥) → (k : ℕ) → 1 ≤ k → k ≤ 4 → Ahead (On Poly (shapes_of l)) way k x y
poly_end l c x y h g right beyond k first last = absurd (beyond (strip_on l c (x +ℤ pos 1) y (omega (arith, ints))))
poly_end l c x y h g left beyond k first last = absurd (beyond (strip_on l c (x -ℤ pos 1) y (omega (arith, ints))))
poly_end l c x y h g up beyond k first last =
    let e = c.ends in
    by_lt_z (y +ℤ pos 1) (finger_high l.frame c.strip.row c.strip.width)
    (λ less. absurd (beyond (strip_on l c x (y +ℤ pos 1) (omega (arith, ints)))))
    (λ most. gate_on l c x (y +ℤ pos k) (omega (arith, ints)))
poly_end l c x y h g down beyond k first last =
    let e = c.ends in
    by_lt_z (y -ℤ pos 1) (finger_low l.frame c.strip.row c.strip.width)
    (λ less. gate_on l c x (y -ℤ pos k) (omega (arith, ints)))
    (λ most. absurd (beyond (strip_on l c x (y -ℤ pos 1) (omega (arith, ints)))))

pub n3_3 : (l : Layout) (w : IsLaid l) → IsEmpty (Fails Plain N3_3 (shapes_of l))
n3_3 l w x y f =
    let c = crossing l w x y x y f.gate.0 f.gate.1 (omega (arith, ints)) in
    f.out (poly_end l c.at x y c.on_strip c.on_gate f.way f.beyond f.at f.first f.last)

-- past a side of a gate its active goes on
active_end : (l : Layout) (c : Crossing l) (x y : ℤ) → Holds (area_rect l (finger_of c.strip)) x y → Holds (piece_rect l (strip_of c.gate)) x y → (way : Way) → (Ahead (On Poly (shapes_of l)) way 1 x y → ⊥) → (k : ℕ) → 1 ≤ k → k ≤ 6 → Ahead (On Active (shapes_of l)) way k x y
active_end l c x y h g right clear k first last =
    by_lt_z (x +ℤ pos 1) (pos c.gate.x +ℤ pos 2)
    (λ less. absurd (clear (gate_on l c (x +ℤ pos 1) y (omega (arith, ints)))))
    (λ most. strip_on l c (x +ℤ pos k) y (omega (arith, ints)))
active_end l c x y h g left clear k first last =
    by_lt_z (x -ℤ pos 1) (pos c.gate.x -ℤ pos 2)
    (λ less. strip_on l c (x -ℤ pos k) y (omega (arith, ints)))
    (λ most. absurd (clear (gate_on l c (x -ℤ pos 1) y (omega (arith, ints)))))
active_end l c x y h g up clear k first last = let e = c.ends in absurd (clear (gate_on l c x (y +ℤ pos 1) (omega (arith, ints))))
active_end l c x y h g down clear k first last = let e = c.ends in absurd (clear (gate_on l c x (y -ℤ pos 1) (omega (arith, ints))))

abbrev Clear : Layout → Way → ℕ → ℤ → ℤ → Type 0
Clear l way k x y = Ahead (On Poly (shapes_of l)) way k x y → ⊥

clear_of : (l : Layout) (way : Way) (k : ℕ) (x y : ℤ) → Ahead (λ u v. On Active (shapes_of l) u v × (On Poly (shapes_of l) u v → ⊥)) way k x y → Clear l way k x y
clear_of l right k x y d = d.1
clear_of l left k x y d = d.1
clear_of l up k x y d = d.1
clear_of l down k x y d = d.1

pub n3_4 : (l : Layout) (w : IsLaid l) → IsEmpty (Fails Plain N3_4 (shapes_of l))
n3_4 l w x y f =
    let c = crossing l w x y x y f.gate.0 f.gate.1 (omega (arith, ints)) in
    f.out (active_end l c.at x y c.on_strip c.on_gate f.way (clear_of l f.way 1 x y f.beside) f.at f.first f.last)

-- Field poly with diffusion so near were poly of a gate beside its own finger: none is.
field_end : (l : Layout) (w : IsLaid l) (x y : ℤ) → On Poly (shapes_of l) x y → (On Active (shapes_of l) x y → ⊥) → (way : Way) (k : ℕ) → k ≤ 2 → Ahead (λ u v. On Active (shapes_of l) u v × (On Poly (shapes_of l) u v → ⊥)) way k x y → ⊥
field_end l w x y p field right k few d =
    let c = crossing l w (x +ℤ pos k) y x y d.0 p (omega (arith, ints)) in
    let h = c.on_strip in
    let g = c.on_gate in
    let t = c.at in
    field (strip_on l c.at x y (omega (arith, ints)))
field_end l w x y p field left k few d =
    let c = crossing l w (x -ℤ pos k) y x y d.0 p (omega (arith, ints)) in
    let h = c.on_strip in
    let g = c.on_gate in
    let t = c.at in
    field (strip_on l c.at x y (omega (arith, ints)))
field_end l w x y p field up k few d =
    let c = crossing l w x (y +ℤ pos k) x y d.0 p (omega (arith, ints)) in
    let h = c.on_strip in
    let g = c.on_gate in
    let e = c.at.ends in
    d.1 (gate_on l c.at x (y +ℤ pos k) (omega (arith, ints)))
field_end l w x y p field down k few d =
    let c = crossing l w x (y -ℤ pos k) x y d.0 p (omega (arith, ints)) in
    let h = c.on_strip in
    let g = c.on_gate in
    let e = c.at.ends in
    d.1 (gate_on l c.at x (y -ℤ pos k) (omega (arith, ints)))

pub n3_5 : (l : Layout) (w : IsLaid l) → IsEmpty (Fails Plain N3_5 (shapes_of l))
n3_5 l w x y f = field_end l w x y f.field.0 f.field.1 f.way (f.count + 1) (let few = f.few in omega arith) f.meets
