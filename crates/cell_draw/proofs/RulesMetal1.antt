-- Metal1: rails, straps of contacts, bars.
use Rattle.std.proofs.Common.{◌≡◌, ℕ, Option, Some, None, arith, inl, inr, refl, sym, subst}
use Rattle.std.specs.List.{Contains}
use Rattle.std.proofs.lemmas.Int.{ints}
use Rattle.std.proofs.lemmas.List.Elements.{All-contains}
use Rattle.cell_num.specs.declared.net.NetNo.{NetNo}
use Rattle.cell_num.specs.declared.finger.Row.{Row}
use Rattle.cell_num.specs.declared.finger.Row.TheVariants.{P, N}
use Rattle.box_geom.specs.Rectangle.{Rectangle, IsProper}
use Rattle.box_geom.specs.Layers.{rects_on}
use Rattle.box_geom.specs.declared.layer.Layer.TheVariants.{Metal1}
use Rattle.scmos_rules.specs.Conditions.{IsWide}
use Rattle.cell_draw.specs.declared.layout.Frame.{Frame}
use Rattle.cell_draw.specs.declared.layout.Contact.{Contact}
use Rattle.cell_draw.specs.declared.layout.Bar.{Bar}
use Rattle.cell_draw.specs.declared.layout.Layout.{Layout}
use Rattle.cell_draw.specs.Shapes.{gnd_rail, vdd_rail, strap, bar_metal, reach_shapes, pad_shapes, via_shapes, shapes_of}
use Rattle.cell_draw.specs.Laid.{IsFrame, IsInside, AreFar, AreBars, rail_in, IsLaid}
use Rattle.cell_num.proofs.In.{In}
use Rattle.cell_draw.proofs.RulesLayers.{in_pieces, OnGroup, of_frame, of_strip, of_contact, of_gate, of_bar, grouped}
use Rattle.cell_draw.proofs.RulesPieces.{Origin}
use Rattle.cell_draw.proofs.RulesGood.{IsGood, never, besides, stacks, itself, flip}
use Rattle.cell_draw.proofs.RulesPlaces.{InChannel, in_channel, TwoContacts, one_contact, far_contacts, n_below_p, p_above_n, two_contacts}

-- a piece of metal1
pub data Metal : Type 0 where
  gnd : Metal
  vdd : Metal
  strap_of : Contact → Metal
  bar_of : Bar → Metal

abbrev pub metal_rect : Layout → Metal → Rectangle
metal_rect l gnd = (gnd_rail l.frame).rect
metal_rect l vdd = (vdd_rail l.frame).rect
metal_rect l (strap_of c) = (strap l.frame c.row c.x c.reach).rect
metal_rect l (bar_of b) = (bar_metal b).rect

abbrev pub metal_net : Layout → Metal → NetNo
metal_net l gnd = l.gnd
metal_net l vdd = l.vdd
metal_net l (strap_of c) = c.net
metal_net l (bar_of b) = b.net

abbrev pub IsMetal : Layout → Metal → Type 0
IsMetal l (strap_of c) = Contains l.contacts c
IsMetal l (bar_of b) = Contains l.bars b
IsMetal l _ = Unit {0}

abbrev pub OnMetal1 : Layout → Rectangle → Type 0
OnMetal1 l r = Origin (IsMetal l) (metal_rect l) r

no_reach_metal : (f : Frame) (row : Row) (x : ℕ) (reach : Option ℕ) (r : Rectangle) → In (rects_on Metal1 (reach_shapes f row x reach)) r → ⊥
no_reach_metal f row x None r i = i
no_reach_metal f row x (Some y) r i = i

no_pad_metal : (x : ℕ) (track : Option ℕ) (r : Rectangle) → In (rects_on Metal1 (pad_shapes x track)) r → ⊥
no_pad_metal x None r i = i
no_pad_metal x (Some y) r i = i

pub on_metal1 : (l : Layout) (r : Rectangle) → Contains (rects_on Metal1 (shapes_of l)) r → OnMetal1 l r
on_metal1 l r c = from (grouped Metal1 l r c)
  where
    from : OnGroup Metal1 l r → OnMetal1 l r
    from (of_frame (inl e)) = record { piece = gnd; listed = tt; is = e }
    from (of_frame (inr (inl e))) = record { piece = vdd; listed = tt; is = e }
    from (of_frame (inr (inr i))) = absurd i
    from (of_strip s h i) = absurd i
    from (of_contact k h (inl e)) = record { piece = strap_of k; listed = h; is = e }
    from (of_contact k h (inr i)) = absurd (no_reach_metal l.frame k.row k.x k.reach r i)
    from (of_gate g h i) = absurd (no_pad_metal g.x g.track r i)
    from (of_bar b h (inl e)) = record { piece = bar_of b; listed = h; is = e }
    from (of_bar b h (inr i)) = absurd ((in_pieces Metal1 (via_shapes b.y) b.vias r i).inside)

rails_apart : (f : Frame) (k : ℕ) → IsFrame f k → (Same : Type 0) → IsGood 6 (gnd_rail f).rect (vdd_rail f).rect Same
rails_apart f k fr Same = never (omega (arith, ints))

-- a rail and a strap: that of its own row's rail ends at it
gnd_strap : (l : Layout) (k : ℕ) → IsFrame l.frame k → (row : Row) (x : ℕ) (reach : Option ℕ) (net : NetNo) → IsInside l.frame x → (reach ≡ None → net ≡ rail_in row l) → IsGood 6 (gnd_rail l.frame).rect (strap l.frame row x reach).rect (l.gnd ≡ net)
gnd_strap l k fr N x None net i rail = stacks (omega (arith, ints)) (sym (rail refl))
gnd_strap l k fr N x (Some y) net i rail = never (omega (arith, ints))
gnd_strap l k fr P x None net i rail = never (omega (arith, ints))
gnd_strap l k fr P x (Some y) net i rail = never (omega (arith, ints))

vdd_strap : (l : Layout) (k : ℕ) → IsFrame l.frame k → (row : Row) (x : ℕ) (reach : Option ℕ) (net : NetNo) → IsInside l.frame x → (reach ≡ None → net ≡ rail_in row l) → IsGood 6 (vdd_rail l.frame).rect (strap l.frame row x reach).rect (l.vdd ≡ net)
vdd_strap l k fr P x None net i rail = stacks (omega (arith, ints)) (sym (rail refl))
vdd_strap l k fr P x (Some y) net i rail = never (omega (arith, ints))
vdd_strap l k fr N x None net i rail = never (omega (arith, ints))
vdd_strap l k fr N x (Some y) net i rail = never (omega (arith, ints))

-- straps at lines that are far from each other
far_straps : (f : Frame) (r s : Row) (x z : ℕ) (o p : Option ℕ) (Same : Type 0) → AreFar 16 x z → IsGood 6 (strap f r x o).rect (strap f s z p).rect Same
far_straps f r s x z o p Same (inl h) = never (omega (arith, ints))
far_straps f r s x z o p Same (inr h) = never (omega (arith, ints))

-- straps of the two rows
facing_straps : (f : Frame) (k : ℕ) → IsFrame f k → (x z : ℕ) (o p : Option ℕ) (Same : Type 0) → IsGood 6 (strap f N x o).rect (strap f P z p).rect Same
facing_straps f k fr x z None None Same = never (omega (arith, ints))
facing_straps f k fr x z None (Some q) Same = never (omega (arith, ints))
facing_straps f k fr x z (Some p) None Same = never (omega (arith, ints))
facing_straps f k fr x z (Some p) (Some q) Same = never (omega (arith, ints))

pub strap_wide : (f : Frame) (k : ℕ) → IsFrame f k → (row : Row) (x : ℕ) (o : Option ℕ) → IsWide 6 (strap f row x o).rect
strap_wide f k fr N x None = omega (arith, ints)
strap_wide f k fr N x (Some y) = omega (arith, ints)
strap_wide f k fr P x None = omega (arith, ints)
strap_wide f k fr P x (Some y) = omega (arith, ints)

proper : (r : Rectangle) → IsWide 6 r → IsProper r
proper r h = omega (arith, ints)

strap_strap : (l : Layout) (w : IsLaid l) (a b : Contact) → TwoContacts a b → IsGood 6 (strap l.frame a.row a.x a.reach).rect (strap l.frame b.row b.x b.reach).rect (a.net ≡ b.net)
strap_strap l w a b (one_contact e) =
    subst (λ c. IsGood 6 (strap l.frame a.row a.x a.reach).rect (strap l.frame c.row c.x c.reach).rect (a.net ≡ c.net)) e
    (itself (proper (strap l.frame a.row a.x a.reach).rect (strap_wide l.frame w.tracks w.frame a.row a.x a.reach)) refl)
strap_strap l w a b (far_contacts far) = far_straps l.frame a.row b.row a.x b.x a.reach b.reach (a.net ≡ b.net) far
strap_strap l w a b (n_below_p e f line) =
    subst (λ r. IsGood 6 (strap l.frame r a.x a.reach).rect (strap l.frame b.row b.x b.reach).rect (a.net ≡ b.net)) (sym e)
    (subst (λ r. IsGood 6 (strap l.frame N a.x a.reach).rect (strap l.frame r b.x b.reach).rect (a.net ≡ b.net)) (sym f)
    (facing_straps l.frame w.tracks w.frame a.x b.x a.reach b.reach (a.net ≡ b.net)))
strap_strap l w a b (p_above_n e f line) =
    subst (λ r. IsGood 6 (strap l.frame r a.x a.reach).rect (strap l.frame b.row b.x b.reach).rect (a.net ≡ b.net)) (sym e)
    (subst (λ r. IsGood 6 (strap l.frame P a.x a.reach).rect (strap l.frame r b.x b.reach).rect (a.net ≡ b.net)) (sym f)
    (flip sym (facing_straps l.frame w.tracks w.frame b.x a.x b.reach a.reach (b.net ≡ a.net))))

gnd_bar : (f : Frame) (k : ℕ) → IsFrame f k → (b : Bar) → InChannel f b.y → (Same : Type 0) → IsGood 6 (gnd_rail f).rect (bar_metal b).rect Same
gnd_bar f k fr b t Same = never (omega (arith, ints))

vdd_bar : (f : Frame) (k : ℕ) → IsFrame f k → (b : Bar) → InChannel f b.y → (Same : Type 0) → IsGood 6 (vdd_rail f).rect (bar_metal b).rect Same
vdd_bar f k fr b t Same = never (omega (arith, ints))

strap_bar : (f : Frame) (k : ℕ) → IsFrame f k → (row : Row) (x : ℕ) (o : Option ℕ) (b : Bar) → InChannel f b.y → (Same : Type 0) → IsGood 6 (strap f row x o).rect (bar_metal b).rect Same
strap_bar f k fr N x None b t Same = never (omega (arith, ints))
strap_bar f k fr N x (Some y) b t Same = never (omega (arith, ints))
strap_bar f k fr P x None b t Same = never (omega (arith, ints))
strap_bar f k fr P x (Some y) b t Same = never (omega (arith, ints))

bar_bar : (a b : Bar) → AreBars a b → IsGood 6 (bar_metal a).rect (bar_metal b).rect (a.net ≡ b.net)
bar_bar a b (inl (inl h)) = never (omega (arith, ints))
bar_bar a b (inl (inr h)) = never (omega (arith, ints))
bar_bar a b (inr (y, inl (inl h))) = never (omega (arith, ints))
bar_bar a b (inr (y, inl (inr h))) = never (omega (arith, ints))
bar_bar a b (inr (y, inr (h, k, net))) = besides (omega (arith, ints)) net

bar_in : (l : Layout) (w : IsLaid l) (b : Bar) → Contains l.bars b → InChannel l.frame b.y
bar_in l w b h = in_channel l.frame w.tracks b.y w.frame (w.bars b h).1

abbrev inside_of : (l : Layout) (w : IsLaid l) (c : Contact) → Contains l.contacts c → IsInside l.frame c.x
inside_of l w c h = All-contains (λ (c : Contact). IsInside l.frame c.x) l.contacts c w.inside h

-- Close pieces of metal1 touch and are of one net.
pub metal_pairs : (l : Layout) (w : IsLaid l) (a b : Metal) → IsMetal l a → IsMetal l b → IsGood 6 (metal_rect l a) (metal_rect l b) (metal_net l a ≡ metal_net l b)
metal_pairs l w gnd gnd h k = let fr = w.frame in itself (omega (arith, ints)) refl
metal_pairs l w gnd vdd h k = rails_apart l.frame w.tracks w.frame (l.gnd ≡ l.vdd)
metal_pairs l w gnd (strap_of c) h k = gnd_strap l w.tracks w.frame c.row c.x c.reach c.net (inside_of l w c k) (w.rails c k)
metal_pairs l w gnd (bar_of b) h k = gnd_bar l.frame w.tracks w.frame b (bar_in l w b k) (l.gnd ≡ b.net)
metal_pairs l w vdd gnd h k = flip sym (rails_apart l.frame w.tracks w.frame (l.gnd ≡ l.vdd))
metal_pairs l w vdd vdd h k = let fr = w.frame in itself (omega (arith, ints)) refl
metal_pairs l w vdd (strap_of c) h k = vdd_strap l w.tracks w.frame c.row c.x c.reach c.net (inside_of l w c k) (w.rails c k)
metal_pairs l w vdd (bar_of b) h k = vdd_bar l.frame w.tracks w.frame b (bar_in l w b k) (l.vdd ≡ b.net)
metal_pairs l w (strap_of c) gnd h k = flip sym (gnd_strap l w.tracks w.frame c.row c.x c.reach c.net (inside_of l w c h) (w.rails c h))
metal_pairs l w (strap_of c) vdd h k = flip sym (vdd_strap l w.tracks w.frame c.row c.x c.reach c.net (inside_of l w c h) (w.rails c h))
metal_pairs l w (strap_of a) (strap_of b) h k = strap_strap l w a b (two_contacts l w a b h k)
metal_pairs l w (strap_of c) (bar_of b) h k = strap_bar l.frame w.tracks w.frame c.row c.x c.reach b (bar_in l w b k) (c.net ≡ b.net)
metal_pairs l w (bar_of b) gnd h k = flip sym (gnd_bar l.frame w.tracks w.frame b (bar_in l w b h) (l.gnd ≡ b.net))
metal_pairs l w (bar_of b) vdd h k = flip sym (vdd_bar l.frame w.tracks w.frame b (bar_in l w b h) (l.vdd ≡ b.net))
metal_pairs l w (bar_of b) (strap_of c) h k = flip sym (strap_bar l.frame w.tracks w.frame c.row c.x c.reach b (bar_in l w b h) (c.net ≡ b.net))
metal_pairs l w (bar_of a) (bar_of b) h k = bar_bar a b (w.bar_spread a b h k)

pub metal_wide : (l : Layout) (w : IsLaid l) (a : Metal) → IsMetal l a → IsWide 6 (metal_rect l a)
metal_wide l w gnd h = let fr = w.frame in omega (arith, ints)
metal_wide l w vdd h = let fr = w.frame in omega (arith, ints)
metal_wide l w (strap_of c) h = strap_wide l.frame w.tracks w.frame c.row c.x c.reach
metal_wide l w (bar_of b) h = let ends = (w.bars b h).0 in omega (arith, ints)
