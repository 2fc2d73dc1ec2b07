-- Poly: gates, and their pads on tracks.
use Rattle.std.proofs.Common.{◌≡◌, ℕ, pos, Option, Some, None, arith, inl, inr, ◌⊎◌, refl, sym, subst, ap, ◌∙◌}
use Rattle.std.specs.List.{Contains}
use Rattle.std.proofs.lemmas.Int.{ints}
use Rattle.std.proofs.lemmas.List.Elements.{All-contains}
use Rattle.cell_num.specs.declared.finger.Row.{Row}
use Rattle.box_geom.specs.Rectangle.{Rectangle}
use Rattle.box_geom.specs.Layers.{rects_on}
use Rattle.box_geom.specs.declared.shape.Shape.{Shape}
use Rattle.box_geom.specs.declared.layer.Layer.TheVariants.{Poly}
use Rattle.scmos_rules.specs.Conditions.{IsWide}
use Rattle.cell_draw.specs.declared.layout.Frame.{Frame}
use Rattle.cell_draw.specs.declared.layout.Gate.{Gate}
use Rattle.cell_draw.specs.declared.layout.Layout.{Layout}
use Rattle.cell_draw.specs.Shapes.{around, upright, gate_low, gate_high, reach_shapes, pad_shapes, via_shapes, shapes_of}
use Rattle.cell_draw.specs.Laid.{IsFrame, IsGate, HasFinger, AreFar, IsLaid}
use Rattle.cell_num.proofs.Lists.{some_same}
use Rattle.cell_num.proofs.In.{In}
use Rattle.cell_draw.proofs.RulesLayers.{in_pieces, OnGroup, of_frame, of_strip, of_contact, of_gate, of_bar, grouped}
use Rattle.cell_draw.proofs.RulesPieces.{Origin}
use Rattle.cell_draw.proofs.RulesGood.{IsGood, never, besides, itself, flip}
use Rattle.cell_draw.proofs.RulesPlaces.{InChannel, in_channel}

-- a piece of poly: the strip of a gate, or its pad on a track
pub data Piece : Type 0 where
  strip_of : Gate → Piece
  pad_of : Gate → ℕ → Piece

-- the strip and the pad of a gate at x
abbrev pub strip_at : Frame → ℕ → Option ℕ → Option ℕ → Option ℕ → Shape
strip_at f x n p track = upright Poly x 2 (gate_low f n track) (gate_high f p track)

abbrev pub pad_at : ℕ → ℕ → Shape
pad_at x y = around Poly x (pos y) 5

abbrev pub piece_gate : Piece → Gate
piece_gate (strip_of g) = g
piece_gate (pad_of g y) = g

abbrev pub piece_rect : Layout → Piece → Rectangle
piece_rect l (strip_of g) = (strip_at l.frame g.x g.n g.p g.track).rect
piece_rect l (pad_of g y) = (pad_at g.x y).rect

-- a gate, and its net's trunk on a track
pub record IsPad (l : Layout) (g : Gate) (y : ℕ) : Type 0 where
  pub listed : Contains l.gates g
  pub track : g.track ≡ Some y

abbrev pub IsPiece : Layout → Piece → Type 0
IsPiece l (strip_of g) = Contains l.gates g
IsPiece l (pad_of g y) = IsPad l g y

abbrev pub OnPoly : Layout → Rectangle → Type 0
OnPoly l r = Origin (IsPiece l) (piece_rect l) r

no_reach_poly : (f : Frame) (row : Row) (x : ℕ) (reach : Option ℕ) (r : Rectangle) → In (rects_on Poly (reach_shapes f row x reach)) r → ⊥
no_reach_poly f row x None r i = i
no_reach_poly f row x (Some y) r i = i

pad_poly : (l : Layout) (g : Gate) → Contains l.gates g → (o : Option ℕ) → g.track ≡ o → (r : Rectangle) → In (rects_on Poly (pad_shapes g.x o)) r → OnPoly l r
pad_poly l g h None e r i = absurd i
pad_poly l g h (Some y) e r (inl is) = record { piece = pad_of g y; listed = record { listed = h; track = e }; is = is }
pad_poly l g h (Some y) e r (inr i) = absurd i

pub on_poly : (l : Layout) (r : Rectangle) → Contains (rects_on Poly (shapes_of l)) r → OnPoly l r
on_poly l r c = from (grouped Poly l r c)
  where
    from : OnGroup Poly l r → OnPoly l r
    from (of_frame i) = absurd i
    from (of_strip s h i) = absurd i
    from (of_contact k h i) = absurd (no_reach_poly l.frame k.row k.x k.reach r i)
    from (of_gate g h (inl e)) = record { piece = strip_of g; listed = h; is = e }
    from (of_gate g h (inr i)) = pad_poly l g h g.track refl r i
    from (of_bar b h i) = absurd ((in_pieces Poly (via_shapes b.y) b.vias r i).inside)

pub gate_is : (l : Layout) (w : IsLaid l) (g : Gate) → Contains l.gates g → IsGate l.frame g
gate_is l w g h = All-contains (IsGate l.frame) l.gates g w.gates h

-- the track of a pad lies in the channel
pub pad_in : (l : Layout) (w : IsLaid l) (g : Gate) (y : ℕ) → IsPad l g y → InChannel l.frame y
pad_in l w g y h =
    let on = w.pads g y h.listed h.track in
    subst (InChannel l.frame) on.track (in_channel l.frame w.tracks on.bar.y w.frame (w.bars on.bar on.listed).1)

strip_wide : (f : Frame) (k : ℕ) → IsFrame f k → (x : ℕ) (n p track : Option ℕ) → HasFinger n p → ((y : ℕ) → track ≡ Some y → InChannel f y) → IsWide 4 (strip_at f x n p track).rect
strip_wide f k fr x None None track has t = absurd has
strip_wide f k fr x None (Some v) None has t = omega (arith, ints)
strip_wide f k fr x None (Some v) (Some y) has t = let c = t y refl in omega (arith, ints)
strip_wide f k fr x (Some u) None None has t = omega (arith, ints)
strip_wide f k fr x (Some u) None (Some y) has t = let c = t y refl in omega (arith, ints)
strip_wide f k fr x (Some u) (Some v) track has t = omega (arith, ints)

pub piece_wide : (l : Layout) (w : IsLaid l) (a : Piece) → IsPiece l a → IsWide 4 (piece_rect l a)
piece_wide l w (strip_of g) h = let is = gate_is l w g h in strip_wide l.frame w.tracks w.frame g.x g.n g.p g.track is.finger (λ y e. pad_in l w g y (record { listed = h; track = e }))
piece_wide l w (pad_of g y) h = omega (arith, ints)

-- pieces of gates that are far from each other
far_strips : (f : Frame) (x z : ℕ) (n p t m q u : Option ℕ) (Same : Type 0) → AreFar 16 x z → IsGood 6 (strip_at f x n p t).rect (strip_at f z m q u).rect Same
far_strips f x z n p t m q u Same (inl h) = never (omega (arith, ints))
far_strips f x z n p t m q u Same (inr h) = never (omega (arith, ints))

far_pad : (f : Frame) (x z : ℕ) (n p t : Option ℕ) (y : ℕ) (Same : Type 0) → AreFar 16 x z → IsGood 6 (strip_at f x n p t).rect (pad_at z y).rect Same
far_pad f x z n p t y Same (inl h) = never (omega (arith, ints))
far_pad f x z n p t y Same (inr h) = never (omega (arith, ints))

far_pads : (x z y u : ℕ) (Same : Type 0) → AreFar 16 x z → IsGood 6 (pad_at x y).rect (pad_at z u).rect Same
far_pads x z y u Same (inl h) = never (omega (arith, ints))
far_pads x z y u Same (inr h) = never (omega (arith, ints))

-- a gate meets its own pad
own_pad : (f : Frame) (k : ℕ) → IsFrame f k → (x y : ℕ) (n p : Option ℕ) (Same : Type 0) → InChannel f y → Same → IsGood 6 (strip_at f x n p (Some y)).rect (pad_at x y).rect Same
own_pad f k fr x y None None Same t s = besides (omega (arith, ints)) s
own_pad f k fr x y None (Some v) Same t s = besides (omega (arith, ints)) s
own_pad f k fr x y (Some u) None Same t s = besides (omega (arith, ints)) s
own_pad f k fr x y (Some u) (Some v) Same t s = besides (omega (arith, ints)) s

strips : (l : Layout) (w : IsLaid l) (a b : Gate) → Contains l.gates a → (a ≡ b) ⊎ AreFar 16 a.x b.x → IsGood 6 (piece_rect l (strip_of a)) (piece_rect l (strip_of b)) (a.net ≡ b.net)
strips l w a b h (inl e) =
    let wide : IsWide 4 (piece_rect l (strip_of a)) = piece_wide l w (strip_of a) h in
    subst (λ g. IsGood 6 (piece_rect l (strip_of a)) (piece_rect l (strip_of g)) (a.net ≡ g.net)) e (itself (omega (arith, ints)) refl)
strips l w a b h (inr far) = far_strips l.frame a.x b.x a.n a.p a.track b.n b.p b.track (a.net ≡ b.net) far

strip_pad : (l : Layout) (w : IsLaid l) (a b : Gate) (y : ℕ) → IsPad l b y → (a ≡ b) ⊎ AreFar 16 a.x b.x → IsGood 6 (piece_rect l (strip_of a)) (piece_rect l (pad_of b y)) (a.net ≡ b.net)
strip_pad l w a b y h (inl e) =
    subst (λ g. IsGood 6 (piece_rect l (strip_of g)) (piece_rect l (pad_of b y)) (g.net ≡ b.net)) (sym e)
    (subst (λ t. IsGood 6 (strip_at l.frame b.x b.n b.p t).rect (pad_at b.x y).rect (b.net ≡ b.net)) (sym h.track)
    (own_pad l.frame w.tracks w.frame b.x y b.n b.p (b.net ≡ b.net) (pad_in l w b y h) refl))
strip_pad l w a b y h (inr far) = far_pad l.frame a.x b.x a.n a.p a.track y (a.net ≡ b.net) far

pads : (l : Layout) (a b : Gate) (y z : ℕ) → IsPad l a y → IsPad l b z → (a ≡ b) ⊎ AreFar 16 a.x b.x → IsGood 6 (pad_at a.x y).rect (pad_at b.x z).rect (a.net ≡ b.net)
pads l a b y z h k (inl e) =
    let same : y ≡ z = some_same y z (sym h.track ∙ (ap (λ (g : Gate). g.track) e ∙ k.track)) in
    subst (λ g. IsGood 6 (pad_at a.x y).rect (pad_at g.x z).rect (a.net ≡ g.net)) e
    (subst (λ u. IsGood 6 (pad_at a.x y).rect (pad_at a.x u).rect (a.net ≡ a.net)) same (itself (omega (arith, ints)) refl))
pads l a b y z h k (inr far) = far_pads a.x b.x y z (a.net ≡ b.net) far

abbrev pub SameNet : Piece → Piece → Type 0
SameNet a b = (piece_gate a).net ≡ (piece_gate b).net

-- Close pieces of poly touch and are of one net.
pub piece_pairs : (l : Layout) (w : IsLaid l) (a b : Piece) → IsPiece l a → IsPiece l b → IsGood 6 (piece_rect l a) (piece_rect l b) (SameNet a b)
piece_pairs l w (strip_of a) (strip_of b) h k = strips l w a b h (w.gate_spread a b h k)
piece_pairs l w (strip_of a) (pad_of b y) h k = strip_pad l w a b y k (w.gate_spread a b h k.listed)
piece_pairs l w (pad_of a y) (strip_of b) h k = flip sym (strip_pad l w b a y h (w.gate_spread b a k h.listed))
piece_pairs l w (pad_of a y) (pad_of b z) h k = pads l a b y z h k (w.gate_spread a b h.listed k.listed)
