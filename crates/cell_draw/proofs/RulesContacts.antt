-- Contacts: of node places, and of gates.
use Rattle.std.proofs.Common.{◌≡◌, ℕ, pos, Option, Some, None, arith, inl, inr, ◌⊎◌, refl, sym, subst, ap, ◌∙◌}
use Rattle.std.specs.List.{Contains}
use Rattle.std.proofs.lemmas.Int.{ints}
use Rattle.cell_num.specs.declared.finger.Row.{Row}
use Rattle.cell_num.specs.declared.finger.Row.TheVariants.{P, N}
use Rattle.box_geom.specs.Rectangle.{Rectangle, IsProper}
use Rattle.box_geom.specs.Layers.{rects_on}
use Rattle.box_geom.specs.declared.shape.Shape.{Shape}
use Rattle.box_geom.specs.declared.layer.Layer.TheVariants.{Contact as ContactCut}
use Rattle.scmos_rules.specs.Conditions.{IsSquare}
use Rattle.cell_draw.specs.declared.layout.Frame.{Frame}
use Rattle.cell_draw.specs.declared.layout.Contact.{Contact}
use Rattle.cell_draw.specs.declared.layout.Gate.{Gate}
use Rattle.cell_draw.specs.declared.layout.Layout.{Layout}
use Rattle.cell_draw.specs.Shapes.{around, centre, reach_shapes, pad_shapes, via_shapes, shapes_of}
use Rattle.cell_draw.specs.Laid.{IsFrame, AreFar, IsLaid}
use Rattle.cell_num.proofs.Lists.{some_same}
use Rattle.cell_num.proofs.In.{In}
use Rattle.cell_draw.proofs.RulesLayers.{in_pieces, OnGroup, of_frame, of_strip, of_contact, of_gate, of_bar, grouped}
use Rattle.cell_draw.proofs.RulesPieces.{Origin}
use Rattle.cell_draw.proofs.RulesGood.{IsGood, never, itself, flip}
use Rattle.cell_draw.proofs.RulesPlaces.{TwoContacts, one_contact, far_contacts, n_below_p, p_above_n, two_contacts}
use Rattle.cell_draw.proofs.RulesPoly.{IsPad}

-- a contact of a node place, or of a gate on a track
pub data Cut : Type 0 where
  node_of : Contact → Cut
  gate_of : Gate → ℕ → Cut

abbrev pub node_in : Frame → Row → ℕ → Shape
node_in f row x = around ContactCut x (centre f row) 2

abbrev pub gate_at : ℕ → ℕ → Shape
gate_at x y = around ContactCut x (pos y) 2

abbrev pub cut_rect : Layout → Cut → Rectangle
cut_rect l (node_of c) = (node_in l.frame c.row c.x).rect
cut_rect l (gate_of g y) = (gate_at g.x y).rect

abbrev pub IsCut : Layout → Cut → Type 0
IsCut l (node_of c) = Contains l.contacts c
IsCut l (gate_of g y) = IsPad l g y

abbrev pub OnContact : Layout → Rectangle → Type 0
OnContact l r = Origin (IsCut l) (cut_rect l) r

no_reach_cut : (f : Frame) (row : Row) (x : ℕ) (reach : Option ℕ) (r : Rectangle) → In (rects_on ContactCut (reach_shapes f row x reach)) r → ⊥
no_reach_cut f row x None r i = i
no_reach_cut f row x (Some y) r i = i

pad_cut : (l : Layout) (g : Gate) → Contains l.gates g → (o : Option ℕ) → g.track ≡ o → (r : Rectangle) → In (rects_on ContactCut (pad_shapes g.x o)) r → OnContact l r
pad_cut l g h None e r i = absurd i
pad_cut l g h (Some y) e r (inl is) = record { piece = gate_of g y; listed = record { listed = h; track = e }; is = is }
pad_cut l g h (Some y) e r (inr i) = absurd i

pub on_contact : (l : Layout) (r : Rectangle) → Contains (rects_on ContactCut (shapes_of l)) r → OnContact l r
on_contact l r c = from (grouped ContactCut l r c)
  where
    from : OnGroup ContactCut l r → OnContact l r
    from (of_frame i) = absurd i
    from (of_strip s h i) = absurd i
    from (of_contact k h (inl e)) = record { piece = node_of k; listed = h; is = e }
    from (of_contact k h (inr i)) = absurd (no_reach_cut l.frame k.row k.x k.reach r i)
    from (of_gate g h i) = pad_cut l g h g.track refl r i
    from (of_bar b h i) = absurd ((in_pieces ContactCut (via_shapes b.y) b.vias r i).inside)

pub cut_square : (l : Layout) (a : Cut) → IsSquare 4 (cut_rect l a)
cut_square l (node_of c) = omega (arith, ints)
cut_square l (gate_of g y) = omega (arith, ints)

pub cut_proper : (l : Layout) (a : Cut) → IsProper (cut_rect l a)
cut_proper l (node_of c) = omega (arith, ints)
cut_proper l (gate_of g y) = omega (arith, ints)

-- what close contacts are
abbrev pub OneCut : Layout → Cut → Cut → Type 0
OneCut l a b = cut_rect l a ≡ cut_rect l b

facing_nodes : (f : Frame) (k : ℕ) → IsFrame f k → (x z : ℕ) (Same : Type 0) → IsGood 6 (node_in f N x).rect (node_in f P z).rect Same
facing_nodes f k fr x z Same = never (omega (arith, ints))

far_nodes : (f : Frame) (r s : Row) (x z : ℕ) (Same : Type 0) → AreFar 16 x z → IsGood 6 (node_in f r x).rect (node_in f s z).rect Same
far_nodes f r s x z Same (inl h) = never (omega (arith, ints))
far_nodes f r s x z Same (inr h) = never (omega (arith, ints))

nodes : (l : Layout) (w : IsLaid l) (a b : Contact) → TwoContacts a b → IsGood 6 (cut_rect l (node_of a)) (cut_rect l (node_of b)) (OneCut l (node_of a) (node_of b))
nodes l w a b (one_contact e) = subst (λ c. IsGood 6 (cut_rect l (node_of a)) (cut_rect l (node_of c)) (OneCut l (node_of a) (node_of c))) e (itself (cut_proper l (node_of a)) refl)
nodes l w a b (far_contacts far) = far_nodes l.frame a.row b.row a.x b.x (OneCut l (node_of a) (node_of b)) far
nodes l w a b (n_below_p e f line) =
    subst (λ r. IsGood 6 (node_in l.frame r a.x).rect (node_in l.frame b.row b.x).rect (OneCut l (node_of a) (node_of b))) (sym e)
    (subst (λ r. IsGood 6 (node_in l.frame N a.x).rect (node_in l.frame r b.x).rect (OneCut l (node_of a) (node_of b))) (sym f)
    (facing_nodes l.frame w.tracks w.frame a.x b.x (OneCut l (node_of a) (node_of b))))
nodes l w a b (p_above_n e f line) =
    subst (λ r. IsGood 6 (node_in l.frame r a.x).rect (node_in l.frame b.row b.x).rect (OneCut l (node_of a) (node_of b))) (sym e)
    (subst (λ r. IsGood 6 (node_in l.frame P a.x).rect (node_in l.frame r b.x).rect (OneCut l (node_of a) (node_of b))) (sym f)
    (flip (λ s. s) (facing_nodes l.frame w.tracks w.frame b.x a.x (OneCut l (node_of a) (node_of b)))))

node_gate : (f : Frame) (row : Row) (x z y : ℕ) (Same : Type 0) → AreFar 11 x z → IsGood 6 (node_in f row x).rect (gate_at z y).rect Same
node_gate f row x z y Same (inl h) = never (omega (arith, ints))
node_gate f row x z y Same (inr h) = never (omega (arith, ints))

far_gates : (x z y u : ℕ) (Same : Type 0) → AreFar 16 x z → IsGood 6 (gate_at x y).rect (gate_at z u).rect Same
far_gates x z y u Same (inl h) = never (omega (arith, ints))
far_gates x z y u Same (inr h) = never (omega (arith, ints))

gates : (l : Layout) (a b : Gate) (y z : ℕ) → IsPad l a y → IsPad l b z → (a ≡ b) ⊎ AreFar 16 a.x b.x → IsGood 6 (gate_at a.x y).rect (gate_at b.x z).rect (OneCut l (gate_of a y) (gate_of b z))
gates l a b y z h k (inl e) =
    let same : y ≡ z = some_same y z (sym h.track ∙ (ap (λ (g : Gate). g.track) e ∙ k.track)) in
    subst (λ g. IsGood 6 (gate_at a.x y).rect (gate_at g.x z).rect (OneCut l (gate_of a y) (gate_of g z))) e
    (subst (λ u. IsGood 6 (gate_at a.x y).rect (gate_at a.x u).rect (OneCut l (gate_of a y) (gate_of a u))) same (itself (cut_proper l (gate_of a y)) refl))
gates l a b y z h k (inr far) = far_gates a.x b.x y z (OneCut l (gate_of a y) (gate_of b z)) far

-- Close contacts are one.
pub cut_pairs : (l : Layout) (w : IsLaid l) (a b : Cut) → IsCut l a → IsCut l b → IsGood 6 (cut_rect l a) (cut_rect l b) (OneCut l a b)
cut_pairs l w (node_of a) (node_of b) h k = nodes l w a b (two_contacts l w a b h k)
cut_pairs l w (node_of c) (gate_of g y) h k = node_gate l.frame c.row c.x g.x y (OneCut l (node_of c) (gate_of g y)) (w.beside c g h k.listed)
cut_pairs l w (gate_of g y) (node_of c) h k = flip sym (node_gate l.frame c.row c.x g.x y (OneCut l (node_of c) (gate_of g y)) (w.beside c g k h.listed))
cut_pairs l w (gate_of a y) (gate_of b z) h k = gates l a b y z h k (w.gate_spread a b h.listed k.listed)
