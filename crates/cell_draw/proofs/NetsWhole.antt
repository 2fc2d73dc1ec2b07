-- Two conductor cells of a drawing are in one net exactly where their pieces are of one net.
use Rattle.std.proofs.Common.{◌≡◌, ◌↔◌, ℕ, zero, suc, ◌≤◌, pos, Option, Some, None, arith, inl, inr, ◌⊎◌, refl, sym, ap, subst, ◌∙◌}
use Rattle.std.specs.List.{Contains}
use Rattle.std.proofs.lemmas.Bool.{cases_lt}
use Rattle.std.proofs.lemmas.Int.{ints}
use Rattle.cell_num.specs.declared.finger.Row.{Row}
use Rattle.cell_num.specs.declared.finger.Row.TheVariants.{P, N}
use Rattle.box_geom.specs.Chains.{Steps}
use Rattle.box_geom.specs.Rectangle.{Holds}
use Rattle.number_trees.proofs.Chains.{none}
use Rattle.scmos_rules.specs.declared.rules.Deck.TheVariants.{Plain}
use Rattle.net_extract.specs.Nets.{Site, SameNet, Conducts}
use Rattle.net_extract.specs.Bonds.{Bonded, IsIn}
use Rattle.net_extract.proofs.Bonds.{one_net}
use Rattle.cell_draw.specs.declared.layout.Strip.{Strip}
use Rattle.cell_draw.specs.declared.layout.Contact.{Contact}
use Rattle.cell_draw.specs.declared.layout.Gate.{Gate}
use Rattle.cell_draw.specs.declared.layout.Bar.{Bar}
use Rattle.cell_draw.specs.declared.layout.Layout.{Layout}
use Rattle.cell_draw.specs.Shapes.{shapes_of}
use Rattle.cell_draw.specs.Laid.{Follows, IsStrip, IsOnBar, rail_in, IsLaid}
use Rattle.cell_draw.proofs.NetsApart.{wire_piece, chained_net}
use Rattle.cell_draw.proofs.NetsDrawn.{are_drawn}
use Rattle.cell_draw.proofs.NetsFacts.{End, left_end, right_end, end_x, Reaches, HasContact, IsLone, AreNeighbours, overlap, crossed, IsNetted}
use Rattle.cell_draw.proofs.NetsJoined.{Together, together, back, shared, pad_strap, strap_branch, branch_bar, strip_pad, pad_bar, gnd_strap, vdd_strap, half_pad, next_halves}
use Rattle.cell_draw.proofs.NetsWires.{Wire, metal, branch, gate, half, pad, net_of, IsWire, parts, WireFrom, wire_from, wire_listed}
use Rattle.cell_draw.proofs.RulesActive.{strip_is}
use Rattle.cell_draw.proofs.RulesMetal1.{gnd, vdd, strap_of, bar_of}
use Rattle.cell_draw.proofs.RulesMetal2.{Signal, IsSignal}
use Rattle.cell_draw.proofs.RulesPoly.{strip_of, pad_of, IsPad}

-- where the pieces of a net come together: on its rail or its bar, or at its only place
data Hub : Type 0 where
  on_gnd : Hub
  on_vdd : Hub
  on_bar : Bar → Hub
  at_end : Strip → End → Hub
  at_gate : Gate → Hub

abbrev hub_wire : Hub → Wire
hub_wire on_gnd = metal gnd
hub_wire on_vdd = metal vdd
hub_wire (on_bar b) = metal (bar_of b)
hub_wire (at_end s e) = half s e
hub_wire (at_gate g) = gate (strip_of g)

abbrev IsHub : (l : Layout) → IsNetted l → Hub → Type 0
IsHub l n on_gnd = Unit {0}
IsHub l n on_vdd = Unit {0}
IsHub l n (on_bar b) = Contains l.bars b
IsHub l n (at_end s e) = Contains l.strips s × IsLone l n.nets s.row (end_x e s)
IsHub l n (at_gate g) = Contains l.gates g × (g.track ≡ None)

record ToHub (l : Layout) (n : IsNetted l) (a : Wire) : Type 0 where
  hub : Hub
  is : IsHub l n hub
  net : net_of l n a ≡ net_of l n (hub_wire hub)
  chain : Together l n a (hub_wire hub)

self : (l : Layout) (n : IsNetted l) (a b : Wire) → a ≡ b → Together l n a b
self l n a b e = none (Bonded Plain (shapes_of l) (parts l n)) (wire_piece l n a) (wire_piece l n b) (ap (λ z. wire_piece l n z) e)

hubbed : (l : Layout) (n : IsNetted l) (h : Hub) → IsHub l n h → ToHub l n (hub_wire h)
hubbed l n h is = record { hub = h; is = is; net = refl; chain = self l n (hub_wire h) (hub_wire h) refl }

-- one link more
before : (l : Layout) (n : IsNetted l) (a b : Wire) → net_of l n a ≡ net_of l n b → Together l n a b → ToHub l n b → ToHub l n a
before l n a b e c t = record { hub = t.hub; is = t.is; net = e ∙ t.net; chain = together l n a b (hub_wire t.hub) c t.chain }

signal_hub : (l : Layout) (w : IsLaid l) (n : IsNetted l) (s : Signal) → IsSignal l s → ToHub l n (branch s)
signal_hub l w n s h =
    let r : Reaches l s.contact s.reach = n.signals s.contact s.reach h.listed h.signal in
    before l n (branch s) (metal (bar_of r.bar)) (sym r.net) (branch_bar l w n s h r) (hubbed l n (on_bar r.bar) r.listed)

strap_hub : (l : Layout) (w : IsLaid l) (n : IsNetted l) (c : Contact) → Contains l.contacts c → ToHub l n (metal (strap_of c))
strap_hub l w n c h = by c.reach refl c.row refl
  where
    by : (o : Option ℕ) → c.reach ≡ o → (row : Row) → c.row ≡ row → ToHub l n (metal (strap_of c))
    by (Some y) e row at =
        let s : Signal = record { contact = c; reach = y } in
        let k : IsSignal l s = record { listed = h; signal = e } in
        before l n (metal (strap_of c)) (branch s) refl (strap_branch l w n s k) (signal_hub l w n s k)
    by None e N at = before l n (metal (strap_of c)) (metal gnd) (w.rails c h e ∙ ap (λ r. rail_in r l) at) (gnd_strap l w n c h e at) (hubbed l n on_gnd tt)
    by None e P at = before l n (metal (strap_of c)) (metal vdd) (w.rails c h e ∙ ap (λ r. rail_in r l) at) (vdd_strap l w n c h e at) (hubbed l n on_vdd tt)

contact_hub : (l : Layout) (w : IsLaid l) (n : IsNetted l) (c : Contact) → Contains l.contacts c → ToHub l n (pad c)
contact_hub l w n c h = before l n (pad c) (metal (strap_of c)) refl (pad_strap l w n c h) (strap_hub l w n c h)

half_hub : (l : Layout) (w : IsLaid l) (n : IsNetted l) (s : Strip) (e : End) → Contains l.strips s → HasContact l s.row (end_x e s) ⊎ IsLone l n.nets s.row (end_x e s) → ToHub l n (half s e)
half_hub l w n s e h (inr lone) = hubbed l n (at_end s e) (h, lone)
half_hub l w n s e h (inl c) =
    let net : c.contact.net ≡ n.nets s.row (end_x e s) = n.contacts c.contact c.listed ∙ (ap (λ r. n.nets r c.contact.x) c.in_row ∙ ap (λ x. n.nets s.row x) c.at_x) in
    before l n (half s e) (pad c.contact) (sym net) (half_pad l w n s e h c) (contact_hub l w n c.contact c.listed)

track_hub : (l : Layout) (w : IsLaid l) (n : IsNetted l) (g : Gate) (t : ℕ) → IsPad l g t → ToHub l n (gate (pad_of g t))
track_hub l w n g t h =
    let on : IsOnBar l g.net g.x t = w.pads g t h.listed h.track in
    before l n (gate (pad_of g t)) (metal (bar_of on.bar)) (sym on.of) (pad_bar l w n g t h on) (hubbed l n (on_bar on.bar) on.listed)

gate_hub : (l : Layout) (w : IsLaid l) (n : IsNetted l) (g : Gate) → Contains l.gates g → ToHub l n (gate (strip_of g))
gate_hub l w n g h = by g.track refl
  where
    by : (o : Option ℕ) → g.track ≡ o → ToHub l n (gate (strip_of g))
    by None e = hubbed l n (at_gate g) (h, e)
    by (Some t) e =
        let p : IsPad l g t = record { listed = h; track = e } in
        before l n (gate (strip_of g)) (gate (pad_of g t)) refl (strip_pad l w n g t p) (track_hub l w n g t p)

to_hub : (l : Layout) (w : IsLaid l) (n : IsNetted l) (a : Wire) → IsWire l a → ToHub l n a
to_hub l w n (metal gnd) h = hubbed l n on_gnd tt
to_hub l w n (metal vdd) h = hubbed l n on_vdd tt
to_hub l w n (metal (strap_of c)) h = strap_hub l w n c h
to_hub l w n (metal (bar_of b)) h = hubbed l n (on_bar b) h
to_hub l w n (branch s) h = signal_hub l w n s h
to_hub l w n (gate (strip_of g)) h = gate_hub l w n g h
to_hub l w n (gate (pad_of g t)) h = track_hub l w n g t h
to_hub l w n (half s e) h = half_hub l w n s e h (n.ends s e h)
to_hub l w n (pad c) h = contact_hub l w n c h

-- ends of strips at one line of one row
one_place : (l : Layout) (w : IsLaid l) (n : IsNetted l) (s t : Strip) (e g : End) → Contains l.strips s → Contains l.strips t → s.row ≡ t.row → end_x e s ≡ end_x g t → Together l n (half s e) (half t g)
one_place l w n s t e g hs ht rows at = by (w.ordered s t hs ht rows) e g at
  where
    a : IsStrip l.frame s
    a = strip_is l w s hs

    b : IsStrip l.frame t
    b = strip_is l w t ht

    by : (s ≡ t) ⊎ (Follows s t ⊎ Follows t s) → (e g : End) → end_x e s ≡ end_x g t → Together l n (half s e) (half t g)
    by (inl same) left_end left_end x = self l n (half s left_end) (half t left_end) (ap (λ z. half z left_end) same)
    by (inl same) right_end right_end x = self l n (half s right_end) (half t right_end) (ap (λ z. half z right_end) same)
    by (inl same) left_end right_end x = absurd (let y : s.left ≡ s.right = x ∙ ap (λ (z : Strip). z.right) (sym same) in omega (arith, a.wide, y))
    by (inl same) right_end left_end x = absurd (let y : s.right ≡ s.left = x ∙ ap (λ (z : Strip). z.left) (sym same) in omega (arith, a.wide, y))
    by (inr (inl f)) right_end left_end x = next_halves l w n s t hs ht rows x
    by (inr (inr f)) left_end right_end x = back l n (half t right_end) (half s left_end) (next_halves l w n t s ht hs (sym rows) (sym x))
    by (inr (inl (inl z))) left_end left_end x = absurd (omega (arith, a.wide, z, x))
    by (inr (inl (inr z))) left_end left_end x = absurd (omega (arith, a.wide, z, x))
    by (inr (inl (inl z))) left_end right_end x = absurd (omega (arith, a.wide, b.wide, z, x))
    by (inr (inl (inr z))) left_end right_end x = absurd (omega (arith, a.wide, b.wide, z, x))
    by (inr (inl (inl z))) right_end right_end x = absurd (omega (arith, b.wide, z, x))
    by (inr (inl (inr z))) right_end right_end x = absurd (omega (arith, b.wide, z, x))
    by (inr (inr (inl z))) left_end left_end x = absurd (omega (arith, b.wide, z, x))
    by (inr (inr (inr z))) left_end left_end x = absurd (omega (arith, b.wide, z, x))
    by (inr (inr (inl z))) right_end left_end x = absurd (omega (arith, a.wide, b.wide, z, x))
    by (inr (inr (inr z))) right_end left_end x = absurd (omega (arith, a.wide, b.wide, z, x))
    by (inr (inr (inl z))) right_end right_end x = absurd (omega (arith, a.wide, z, x))
    by (inr (inr (inr z))) right_end right_end x = absurd (omega (arith, a.wide, z, x))

-- ---- bars of one net
neighbours : (l : Layout) (w : IsLaid l) (n : IsNetted l) (a b : Bar) → AreNeighbours l a b → Together l n (metal (bar_of a)) (metal (bar_of b))
neighbours l w n a b (overlap ha hb net y left right) = elim (cases_lt a.left b.left) [
  | inl less ↦
      let wide : b.left ≤ b.right = (w.bars b hb).0 in
      shared l n (metal (bar_of a)) (metal (bar_of b)) ha hb refl (pos b.left) (pos b.y) (omega (arith, ints)) (omega (arith, ints))
  | inr more ↦
      let wide : a.left ≤ a.right = (w.bars a ha).0 in
      shared l n (metal (bar_of a)) (metal (bar_of b)) ha hb refl (pos a.left) (pos a.y) (omega (arith, ints)) (omega (arith, ints))
]
neighbours l w n a b (crossed c y there e to is also same) =
    let s : Signal = record { contact = c; reach = y } in
    let k : IsSignal l s = record { listed = there; signal = e } in
    subst (λ z. Together l n (metal (bar_of z)) (metal (bar_of b))) is (subst (λ z. Together l n (metal (bar_of to.bar)) (metal (bar_of z))) same
    (together l n (metal (bar_of to.bar)) (branch s) (metal (bar_of also.bar)) (back l n (branch s) (metal (bar_of to.bar)) (branch_bar l w n s k to)) (branch_bar l w n s k also)))

bars_together : (l : Layout) (w : IsLaid l) (n : IsNetted l) (count : ℕ) (a b : Bar) → Steps (AreNeighbours l) count a b → Together l n (metal (bar_of a)) (metal (bar_of b))
bars_together l w n zero a b e = self l n (metal (bar_of a)) (metal (bar_of b)) (ap (λ z. metal (bar_of z)) e)
bars_together l w n (suc count) a b (c, first, more) = together l n (metal (bar_of a)) (metal (bar_of c)) (metal (bar_of b)) (neighbours l w n a c first) (bars_together l w n count c b more)

-- a net has one hub
one_hub : (l : Layout) (w : IsLaid l) (n : IsNetted l) (h k : Hub) → IsHub l n h → IsHub l n k → net_of l n (hub_wire h) ≡ net_of l n (hub_wire k) → Together l n (hub_wire h) (hub_wire k)
one_hub l w n on_gnd on_gnd i j e = self l n (metal gnd) (metal gnd) refl
one_hub l w n on_gnd on_vdd i j e = absurd (n.rails e)
one_hub l w n on_gnd (on_bar b) i j e = absurd ((n.bars b j).0 (sym e))
one_hub l w n on_gnd (at_end s g) i j e = absurd (j.1.no_gnd (sym e))
one_hub l w n on_gnd (at_gate g) i j e = absurd ((n.gates g j.0).0 (sym e))
one_hub l w n on_vdd on_gnd i j e = absurd (n.rails (sym e))
one_hub l w n on_vdd on_vdd i j e = self l n (metal vdd) (metal vdd) refl
one_hub l w n on_vdd (on_bar b) i j e = absurd ((n.bars b j).1 (sym e))
one_hub l w n on_vdd (at_end s g) i j e = absurd (j.1.no_vdd (sym e))
one_hub l w n on_vdd (at_gate g) i j e = absurd ((n.gates g j.0).1 (sym e))
one_hub l w n (on_bar b) on_gnd i j e = absurd ((n.bars b i).0 e)
one_hub l w n (on_bar b) on_vdd i j e = absurd ((n.bars b i).1 e)
one_hub l w n (on_bar a) (on_bar b) i j e = let chain = n.joined a b i j e in bars_together l w n chain.count a b chain.steps
one_hub l w n (on_bar b) (at_end s g) i j e = absurd (j.1.no_bar b i e)
one_hub l w n (on_bar b) (at_gate g) i j e = absurd ((n.lone g j.0 j.1).no_bar b i e)
one_hub l w n (at_end s g) on_gnd i j e = absurd (i.1.no_gnd e)
one_hub l w n (at_end s g) on_vdd i j e = absurd (i.1.no_vdd e)
one_hub l w n (at_end s g) (on_bar b) i j e = absurd (i.1.no_bar b j (sym e))
one_hub l w n (at_end s g) (at_end t f) i j e =
    let here = i.1.here t f j.0 (sym e) in
    one_place l w n s t g f i.0 j.0 (sym here.0) (sym here.1)
one_hub l w n (at_end s g) (at_gate h) i j e = absurd (i.1.no_gate h j.0 (sym e))
one_hub l w n (at_gate g) on_gnd i j e = absurd ((n.gates g i.0).0 e)
one_hub l w n (at_gate g) on_vdd i j e = absurd ((n.gates g i.0).1 e)
one_hub l w n (at_gate g) (on_bar b) i j e = absurd ((n.lone g i.0 i.1).no_bar b j (sym e))
one_hub l w n (at_gate g) (at_end s f) i j e = absurd (j.1.no_gate g i.0 e)
one_hub l w n (at_gate g) (at_gate h) i j e = self l n (gate (strip_of g)) (gate (strip_of h)) (ap (λ z. gate (strip_of z)) (sym ((n.lone g i.0 i.1).here h j.0 (sym e))))

-- Pieces of one net are chained.
pub net_chained : (l : Layout) (w : IsLaid l) (n : IsNetted l) (a b : Wire) → IsWire l a → IsWire l b → net_of l n a ≡ net_of l n b → Together l n a b
net_chained l w n a b h k e =
    let s : ToHub l n a = to_hub l w n a h in
    let t : ToHub l n b = to_hub l w n b k in
    together l n a (hub_wire s.hub) b s.chain
    (together l n (hub_wire s.hub) (hub_wire t.hub) b (one_hub l w n s.hub t.hub s.is t.is (sym s.net ∙ (e ∙ t.net))) (back l n b (hub_wire t.hub) t.chain))

-- the site is a cell of the piece
abbrev pub IsOf : (l : Layout) → IsNetted l → Wire → Site → Type 0
IsOf l n a s = IsIn (wire_piece l n a) s

pub nets : (l : Layout) (w : IsLaid l) (n : IsNetted l) (a b : Wire) (s t : Site) → IsWire l a → IsWire l b → IsOf l n a s → IsOf l n b t → SameNet Plain (shapes_of l) s t ↔ net_of l n a ≡ net_of l n b
nets l w n a b s t h k i j =
    let law : SameNet Plain (shapes_of l) s t ↔ Together l n a b = one_net Plain (shapes_of l) (parts l n) (wire_piece l n a) (wire_piece l n b) s t (are_drawn l w n) (wire_listed l n a h) (wire_listed l n b k) i j in
    (λ same. chained_net l w n a b h k (law.0 same), λ e. law.1 (net_chained l w n a b h k e))

-- the piece that a conductor cell is of
pub record PieceOf (l : Layout) (n : IsNetted l) (s : Site) : Type 0 where
  pub wire : Wire
  pub listed : IsWire l wire
  pub holds : IsOf l n wire s

pub piece_of : (l : Layout) (w : IsLaid l) (n : IsNetted l) (s : Site) → Conducts (shapes_of l) s → PieceOf l n s
piece_of l w n s c =
    let v = (are_drawn l w n).covered s.kind s.cell.x s.cell.y c in
    let f : WireFrom l n s.kind v.rect = wire_from l n s.kind v.rect v.listed in
    record { wire = f.wire; listed = f.listed; holds = record { kind = f.kind; holds = subst (λ r. Holds r s.cell.x s.cell.y) (sym f.is) v.holds } }
