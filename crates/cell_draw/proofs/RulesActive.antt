-- Active: fingers, and pads of contacts.
use Rattle.std.proofs.Common.{◌≡◌, ℕ, pos, Option, Some, None, arith, inl, inr, ◌⊎◌, sym, subst}
use Rattle.std.specs.List.{Contains}
use Rattle.std.proofs.lemmas.Int.{ints}
use Rattle.std.proofs.lemmas.List.Elements.{All-contains}
use Rattle.cell_num.specs.declared.finger.Row.{Row}
use Rattle.cell_num.specs.declared.finger.Row.TheVariants.{P, N}
use Rattle.box_geom.specs.Rectangle.{Rectangle}
use Rattle.box_geom.specs.Layers.{rects_on}
use Rattle.box_geom.specs.declared.shape.Shape.{Shape}
use Rattle.box_geom.specs.declared.layer.Layer.TheVariants.{Active}
use Rattle.box_geom.proofs.Meeting.{Beside}
use Rattle.scmos_rules.specs.Conditions.{IsWide}
use Rattle.cell_draw.specs.declared.layout.Frame.{Frame}
use Rattle.cell_draw.specs.declared.layout.Strip.{Strip}
use Rattle.cell_draw.specs.declared.layout.Contact.{Contact}
use Rattle.cell_draw.specs.declared.layout.Layout.{Layout}
use Rattle.cell_draw.specs.Shapes.{box, around, finger_low, finger_high, centre, reach_shapes, pad_shapes, via_shapes, shapes_of}
use Rattle.cell_draw.specs.Laid.{IsFrame, IsStrip, AreFar, Follows, MeetsEnd, IsLaid}
use Rattle.cell_num.proofs.In.{In}
use Rattle.cell_draw.proofs.RulesLayers.{in_pieces, OnGroup, of_frame, of_strip, of_contact, of_gate, of_bar, grouped}
use Rattle.cell_draw.proofs.RulesPieces.{Origin}
use Rattle.cell_draw.proofs.RulesGood.{IsGood, never, besides, itself, flip}
use Rattle.cell_draw.proofs.RulesPlaces.{TwoRows, one_row, n_and_p, p_and_n, two_rows, TwoContacts, one_contact, far_contacts, n_below_p, p_above_n, two_contacts, TwoStrips, one_strip, after, before, n_under_p, p_over_n, two_strips}

-- a piece of active
pub data Area : Type 0 where
  finger_of : Strip → Area
  pad_of : Contact → Area

-- a finger and a pad in a row
abbrev pub finger_in : Frame → Row → Strip → Shape
finger_in f row s = box Active (pos s.left) (finger_low f row s.width) (pos s.right) (finger_high f row s.width)

abbrev pub pad_in : Frame → Row → ℕ → Shape
pad_in f row x = around Active x (centre f row) 5

abbrev pub area_rect : Layout → Area → Rectangle
area_rect l (finger_of s) = (finger_in l.frame s.row s).rect
area_rect l (pad_of c) = (pad_in l.frame c.row c.x).rect

abbrev pub IsArea : Layout → Area → Type 0
IsArea l (finger_of s) = Contains l.strips s
IsArea l (pad_of c) = Contains l.contacts c

abbrev pub OnActive : Layout → Rectangle → Type 0
OnActive l r = Origin (IsArea l) (area_rect l) r

no_reach_area : (f : Frame) (row : Row) (x : ℕ) (reach : Option ℕ) (r : Rectangle) → In (rects_on Active (reach_shapes f row x reach)) r → ⊥
no_reach_area f row x None r i = i
no_reach_area f row x (Some y) r i = i

no_pad_area : (x : ℕ) (track : Option ℕ) (r : Rectangle) → In (rects_on Active (pad_shapes x track)) r → ⊥
no_pad_area x None r i = i
no_pad_area x (Some y) r i = i

pub on_active : (l : Layout) (r : Rectangle) → Contains (rects_on Active (shapes_of l)) r → OnActive l r
on_active l r c = from (grouped Active l r c)
  where
    from : OnGroup Active l r → OnActive l r
    from (of_frame i) = absurd i
    from (of_strip s h (inl e)) = record { piece = finger_of s; listed = h; is = e }
    from (of_strip s h (inr i)) = absurd i
    from (of_contact k h (inl e)) = record { piece = pad_of k; listed = h; is = e }
    from (of_contact k h (inr i)) = absurd (no_reach_area l.frame k.row k.x k.reach r i)
    from (of_gate g h i) = absurd (no_pad_area g.x g.track r i)
    from (of_bar b h i) = absurd ((in_pieces Active (via_shapes b.y) b.vias r i).inside)

pub strip_is : (l : Layout) (w : IsLaid l) (s : Strip) → Contains l.strips s → IsStrip l.frame s
strip_is l w s h = All-contains (IsStrip l.frame) l.strips s w.strips h

finger_wide : (f : Frame) (row : Row) (s : Strip) → IsStrip f s → IsWide 6 (finger_in f row s).rect
finger_wide f N s h = omega (arith, ints)
finger_wide f P s h = omega (arith, ints)

pub area_wide : (l : Layout) (w : IsLaid l) (a : Area) → IsArea l a → IsWide 6 (area_rect l a)
area_wide l w (finger_of s) h = finger_wide l.frame s.row s (strip_is l w s h)
area_wide l w (pad_of c) h = omega (arith, ints)

-- areas of the two rows
facing_fingers : (f : Frame) (k : ℕ) → IsFrame f k → (a b : Strip) → IsGood 6 (finger_in f N a).rect (finger_in f P b).rect (Unit {0})
facing_fingers f k fr a b = never (omega (arith, ints))

facing_pads : (f : Frame) (k : ℕ) → IsFrame f k → (x z : ℕ) → IsGood 6 (pad_in f N x).rect (pad_in f P z).rect (Unit {0})
facing_pads f k fr x z = never (omega (arith, ints))

pad_under_finger : (f : Frame) (k : ℕ) → IsFrame f k → (x : ℕ) (s : Strip) → IsGood 6 (pad_in f N x).rect (finger_in f P s).rect (Unit {0})
pad_under_finger f k fr x s = never (omega (arith, ints))

pad_over_finger : (f : Frame) (k : ℕ) → IsFrame f k → (x : ℕ) (s : Strip) → IsGood 6 (pad_in f P x).rect (finger_in f N s).rect (Unit {0})
pad_over_finger f k fr x s = never (omega (arith, ints))

-- fingers that follow each other share an end, or a gap stands between
sharing : (f : Frame) (row : Row) (a b : Strip) → IsStrip f a → IsStrip f b → a.right ≡ b.left → Beside (finger_in f row a).rect (finger_in f row b).rect
sharing f N a b h k e = omega (arith, ints)
sharing f P a b h k e = omega (arith, ints)

following : (f : Frame) (row : Row) (a b : Strip) → IsStrip f a → IsStrip f b → Follows a b → IsGood 6 (finger_in f row a).rect (finger_in f row b).rect (Unit {0})
following f row a b h k (inl e) = besides (sharing f row a b h k e) tt
following f row a b h k (inr far) = never (omega (arith, ints))

fingers : (l : Layout) (w : IsLaid l) (a b : Strip) → Contains l.strips a → Contains l.strips b → TwoStrips a b → IsGood 6 (area_rect l (finger_of a)) (area_rect l (finger_of b)) (Unit {0})
fingers l w a b h k (one_strip e) =
    let wide : IsWide 6 (area_rect l (finger_of a)) = area_wide l w (finger_of a) h in
    subst (λ s. IsGood 6 (area_rect l (finger_of a)) (area_rect l (finger_of s)) (Unit {0})) e (itself (omega (arith, ints)) tt)
fingers l w a b h k (after e next) =
    subst (λ r. IsGood 6 (finger_in l.frame a.row a).rect (finger_in l.frame r b).rect (Unit {0})) e (following l.frame a.row a b (strip_is l w a h) (strip_is l w b k) next)
fingers l w a b h k (before e next) =
    subst (λ r. IsGood 6 (finger_in l.frame a.row a).rect (finger_in l.frame r b).rect (Unit {0})) e (flip (λ s. s) (following l.frame a.row b a (strip_is l w b k) (strip_is l w a h) next))
fingers l w a b h k (n_under_p e f) =
    subst (λ r. IsGood 6 (finger_in l.frame r a).rect (finger_in l.frame b.row b).rect (Unit {0})) (sym e)
    (subst (λ r. IsGood 6 (finger_in l.frame N a).rect (finger_in l.frame r b).rect (Unit {0})) (sym f) (facing_fingers l.frame w.tracks w.frame a b))
fingers l w a b h k (p_over_n e f) =
    subst (λ r. IsGood 6 (finger_in l.frame r a).rect (finger_in l.frame b.row b).rect (Unit {0})) (sym e)
    (subst (λ r. IsGood 6 (finger_in l.frame P a).rect (finger_in l.frame r b).rect (Unit {0})) (sym f) (flip (λ s. s) (facing_fingers l.frame w.tracks w.frame b a)))

far_pads : (f : Frame) (r s : Row) (x z : ℕ) → AreFar 16 x z → IsGood 6 (pad_in f r x).rect (pad_in f s z).rect (Unit {0})
far_pads f r s x z (inl h) = never (omega (arith, ints))
far_pads f r s x z (inr h) = never (omega (arith, ints))

pads : (l : Layout) (w : IsLaid l) (a b : Contact) → TwoContacts a b → IsGood 6 (area_rect l (pad_of a)) (area_rect l (pad_of b)) (Unit {0})
pads l w a b (one_contact e) = subst (λ c. IsGood 6 (area_rect l (pad_of a)) (area_rect l (pad_of c)) (Unit {0})) e (itself (omega (arith, ints)) tt)
pads l w a b (far_contacts far) = far_pads l.frame a.row b.row a.x b.x far
pads l w a b (n_below_p e f line) =
    subst (λ r. IsGood 6 (pad_in l.frame r a.x).rect (pad_in l.frame b.row b.x).rect (Unit {0})) (sym e)
    (subst (λ r. IsGood 6 (pad_in l.frame N a.x).rect (pad_in l.frame r b.x).rect (Unit {0})) (sym f) (facing_pads l.frame w.tracks w.frame a.x b.x))
pads l w a b (p_above_n e f line) =
    subst (λ r. IsGood 6 (pad_in l.frame r a.x).rect (pad_in l.frame b.row b.x).rect (Unit {0})) (sym e)
    (subst (λ r. IsGood 6 (pad_in l.frame P a.x).rect (pad_in l.frame r b.x).rect (Unit {0})) (sym f) (flip (λ s. s) (facing_pads l.frame w.tracks w.frame b.x a.x)))

-- a pad stands at an end of a finger, or far from it
at_end : (f : Frame) (row : Row) (x : ℕ) (s : Strip) → IsStrip f s → (x ≡ s.left) ⊎ (x ≡ s.right) → Beside (pad_in f row x).rect (finger_in f row s).rect
at_end f N x s h (inl e) = omega (arith, ints)
at_end f N x s h (inr e) = omega (arith, ints)
at_end f P x s h (inl e) = omega (arith, ints)
at_end f P x s h (inr e) = omega (arith, ints)

pad_meets : (f : Frame) (row : Row) (c : Contact) (s : Strip) → IsStrip f s → MeetsEnd c s → IsGood 6 (pad_in f row c.x).rect (finger_in f row s).rect (Unit {0})
pad_meets f row c s h (inl e) = besides (at_end f row c.x s h (inl e)) tt
pad_meets f row c s h (inr (inl e)) = besides (at_end f row c.x s h (inr e)) tt
pad_meets f row c s h (inr (inr (inl far))) = never (omega (arith, ints))
pad_meets f row c s h (inr (inr (inr far))) = never (omega (arith, ints))

pad_finger : (l : Layout) (w : IsLaid l) (c : Contact) (s : Strip) → Contains l.contacts c → Contains l.strips s → TwoRows c.row s.row → IsGood 6 (area_rect l (pad_of c)) (area_rect l (finger_of s)) (Unit {0})
pad_finger l w c s h k (one_row e) =
    subst (λ r. IsGood 6 (pad_in l.frame c.row c.x).rect (finger_in l.frame r s).rect (Unit {0})) e (pad_meets l.frame c.row c s (strip_is l w s k) (w.ends c s h k e))
pad_finger l w c s h k (n_and_p e f) =
    subst (λ r. IsGood 6 (pad_in l.frame r c.x).rect (finger_in l.frame s.row s).rect (Unit {0})) (sym e)
    (subst (λ r. IsGood 6 (pad_in l.frame N c.x).rect (finger_in l.frame r s).rect (Unit {0})) (sym f) (pad_under_finger l.frame w.tracks w.frame c.x s))
pad_finger l w c s h k (p_and_n e f) =
    subst (λ r. IsGood 6 (pad_in l.frame r c.x).rect (finger_in l.frame s.row s).rect (Unit {0})) (sym e)
    (subst (λ r. IsGood 6 (pad_in l.frame P c.x).rect (finger_in l.frame r s).rect (Unit {0})) (sym f) (pad_over_finger l.frame w.tracks w.frame c.x s))

-- Close areas touch.
pub area_pairs : (l : Layout) (w : IsLaid l) (a b : Area) → IsArea l a → IsArea l b → IsGood 6 (area_rect l a) (area_rect l b) (Unit {0})
area_pairs l w (finger_of a) (finger_of b) h k = fingers l w a b h k (two_strips l w a b h k)
area_pairs l w (finger_of s) (pad_of c) h k = flip (λ s. s) (pad_finger l w c s k h (two_rows c.row s.row))
area_pairs l w (pad_of c) (finger_of s) h k = pad_finger l w c s h k (two_rows c.row s.row)
area_pairs l w (pad_of a) (pad_of b) h k = pads l w a b (two_contacts l w a b h k)
