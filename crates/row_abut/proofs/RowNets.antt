-- Nets of drawings side by side: those of each drawing, joined at the rails alone.
use Rattle.std.proofs.Common.{◌≡◌, ◌∙◌, ℤ, pos, ◌≤ℤ◌, ◌+ℤ◌, ◌-ℤ◌, List, arith, inl, inr, ◌⊎◌, refl, sym, subst}
use Rattle.std.proofs.lemmas.Int.{ints}
use Rattle.box_geom.specs.Touching.{Cell, Edge, to_right, to_left, upward, downward}
use Rattle.box_geom.specs.Chains.{Chain}
use Rattle.box_geom.specs.declared.shape.Shape.{Shape}
use Rattle.box_geom.specs.declared.layer.Layer.TheVariants.{Contact, Via}
use Rattle.scmos_rules.specs.Layout.{On}
use Rattle.scmos_rules.specs.declared.rules.Deck.TheVariants.{Plain}
use Rattle.number_trees.proofs.Chains.{none, one, followed}
use Rattle.scmos_rules.proofs.Rails.{IsColumn}
use Rattle.net_extract.specs.Nets.{Site, site_at, Conducts, Joins, by_contact, by_via, Meets, along, through, tied, Wired, SameNet}
use Rattle.net_extract.specs.declared.piece.Conductor.{Conductor}
use Rattle.net_extract.specs.declared.piece.Conductor.TheVariants.{Metal1}
use Rattle.net_extract.proofs.Bonds.{carried_steps}
use Rattle.net_extract.proofs.Wiring.{end_conducts, net_back, net_both}
use Rattle.row_abut.proofs.Beside.{Side, low, high, IsOn, rail, AreBeside}

-- ---- which drawing a place is of
one_column : {X : Type 0} (s : X → List Shape) (u : List Shape) (from to : X → ℤ) (h : ℤ) → AreBeside s u from to h → (i j : X) (x : ℤ) → IsColumn (from i) (to i) x → IsColumn (from j) (to j) x → i ≡ j
one_column s u from to h a i j x p q = elim (a.apart i j) [ inl e ↦ e | inr r ↦ absurd (elim r [ inl l ↦ omega (arith, ints, l) | inr l ↦ omega (arith, ints, l) ]) ]

one_of : {X : Type 0} (s : X → List Shape) (u : List Shape) (from to : X → ℤ) (h : ℤ) → AreBeside s u from to h → (i j : X) (m : Site) → Conducts (s i) m → Conducts (s j) m → i ≡ j
one_of s u from to h a i j m c d = one_column s u from to h a i j m.cell.x (a.lies i m.kind m.cell.x m.cell.y c) (a.lies j m.kind m.cell.x m.cell.y d)

-- what joins in u at a cell of a drawing joins there
joins_in : {X : Type 0} (s : X → List Shape) (u : List Shape) (from to : X → ℤ) (h : ℤ) → AreBeside s u from to h → (i : X) (x y : ℤ) (k l : Conductor) → IsColumn (from i) (to i) x → Joins u x y k l → Joins (s i) x y k l
joins_in s u from to h a i x y k l c (by_contact e lower on) =
    let p = a.contacts x y on in
    by_contact e lower (subst (λ z. On Contact (s z) x y) (one_column s u from to h a p.0 i x (a.contact_lies p.0 x y p.1) c) p.1)
joins_in s u from to h a i x y k l c (by_via e f on) =
    let p = a.vias x y on in
    by_via e f (subst (λ z. On Via (s z) x y) (one_column s u from to h a p.0 i x (a.via_lies p.0 x y p.1) c) p.1)

-- a link of u between two sites of one drawing is one of that drawing
meets_in : {X : Type 0} (s : X → List Shape) (u : List Shape) (from to : X → ℤ) (h : ℤ) → AreBeside s u from to h → (i : X) (m n : Site) → Conducts (s i) m → Meets Plain u m n → Meets Plain (s i) m n
meets_in s u from to h a i m n c (along e edge) = along e edge
meets_in s u from to h a i m n c (through e (inl j)) = through e (inl (joins_in s u from to h a i m.cell.x m.cell.y m.kind n.kind (a.lies i m.kind m.cell.x m.cell.y c) j))
meets_in s u from to h a i m n c (through e (inr j)) = through e (inr (joins_in s u from to h a i m.cell.x m.cell.y n.kind m.kind (a.lies i m.kind m.cell.x m.cell.y c) j))
meets_in s u from to h a i m n c (tied e z) = absurd (cc e)

-- ---- a link from one drawing to another goes along a rail
record OverSeam {X : Type 0} (s : X → List Shape) (from : X → ℤ) (h : ℤ) (i j : X) (m n : Site) : Type 0 where
  pub side : Side
  pub first : SameNet Plain (s i) (rail h (from i) side) m
  pub second : SameNet Plain (s j) (rail h (from j) side) n

metal_site : (m : Site) → m.kind ≡ Metal1 → site_at Metal1 m.cell.x m.cell.y ≡ m
metal_site m e = subst (λ k. record { kind = k; cell = m.cell } ≡ m) e refl

seam : {X : Type 0} (s : X → List Shape) (u : List Shape) (from to : X → ℤ) (h : ℤ) → AreBeside s u from to h → (i j : X) (m n : Site) → (i ≡ j → ⊥) → Conducts (s i) m → Conducts (s j) n → m.kind ≡ n.kind → Edge m.cell n.cell → OverSeam s from h i j m n
seam s u from to h a i j m n differ c d e edge = by (a.inner i m.kind m.cell.x m.cell.y c) (row edge)
  where
    ci : IsColumn (from i) (to i) m.cell.x
    ci = a.lies i m.kind m.cell.x m.cell.y c

    cj : IsColumn (from j) (to j) n.cell.x
    cj = a.lies j n.kind n.cell.x n.cell.y d

    same_x : m.cell.x ≡ n.cell.x → ⊥
    same_x f = differ (one_column s u from to h a i j m.cell.x ci (subst (λ z. IsColumn (from j) (to j) z) (sym f) cj))

    row : Edge m.cell n.cell → (n.cell.y ≡ m.cell.y) × ((n.cell.x ≤ℤ (m.cell.x +ℤ pos 1)) × (m.cell.x ≤ℤ (n.cell.x +ℤ pos 1)))
    row (to_right f g) = (g, (omega (arith, ints, f), omega (arith, ints, f)))
    row (to_left f g) = (g, (omega (arith, ints, f), omega (arith, ints, f)))
    row (upward f g) = absurd (same_x (sym f))
    row (downward f g) = absurd (same_x (sym f))

    by : ((m.kind ≡ Metal1) × ((side : Side) × IsOn h side m.cell.y)) ⊎ IsColumn (from i +ℤ pos 3) (to i -ℤ pos 3) m.cell.x → (n.cell.y ≡ m.cell.y) × ((n.cell.x ≤ℤ (m.cell.x +ℤ pos 1)) × (m.cell.x ≤ℤ (n.cell.x +ℤ pos 1))) → OverSeam s from h i j m n
    by (inl (k, z)) near = record {
      side = z.0;
      first = subst (λ w. SameNet Plain (s i) (rail h (from i) z.0) w) (metal_site m k) (a.railed i z.0 m.cell.x m.cell.y ci z.1);
      second = subst (λ w. SameNet Plain (s j) (rail h (from j) z.0) w) (metal_site n (sym e ∙ k)) (a.railed j z.0 n.cell.x n.cell.y cj (subst (λ w. IsOn h z.0 w) (sym near.0) z.1));
    }
    by (inr inside) near =
        let l = cj in
        let right = near.1.0 in
        let left = near.1.1 in
        absurd (elim (a.apart i j) [ inl f ↦ differ f | inr r ↦ elim r [ inl o ↦ omega (arith, ints, o, right) | inr o ↦ omega (arith, ints, o, left) ] ])

-- ---- seen from drawing k: its own sites, and for all of another one's rail nets its own rail
pub data StandsFor {X : Type 0} (s : X → List Shape) (from : X → ℤ) (h : ℤ) (k : X) (m p : Site) : Type 0 where
  itself : Conducts (s k) m → m ≡ p → StandsFor s from h k m p
  as_rail : (j : X) (side : Side) → SameNet Plain (s j) (rail h (from j) side) m → p ≡ rail h (from k) side → StandsFor s from h k m p

two_sides : {X : Type 0} (s : X → List Shape) (u : List Shape) (from to : X → ℤ) (h : ℤ) → AreBeside s u from to h → (j : X) (a b : Side) (m : Site) → SameNet Plain (s j) (rail h (from j) a) m → SameNet Plain (s j) (rail h (from j) b) m → a ≡ b
two_sides s u from to h a j low low m p q = refl
two_sides s u from to h a j high high m p q = refl
two_sides s u from to h a j low high m p q = absurd (a.sides j (net_both Plain (s j) _ m _ p (net_back Plain (s j) _ m q)))
two_sides s u from to h a j high low m p q = absurd (a.sides j (net_both Plain (s j) _ m _ q (net_back Plain (s j) _ m p)))

-- within one drawing
step_inside : {X : Type 0} (s : X → List Shape) (u : List Shape) (from to : X → ℤ) (h : ℤ) → AreBeside s u from to h → (k j : X) (m n p : Site) → Conducts (s j) m → Conducts (s j) n → Meets Plain u m n → StandsFor s from h k m p → (q : Site) × StandsFor s from h k n q × Chain (Wired Plain (s k)) p q
step_inside s u from to h a k j m n p c d meet (itself own i) =
    let e = one_of s u from to h a j k m c own in
    let mine : Conducts (s k) n = subst (λ z. Conducts (s z) n) e d in
    (n, itself mine refl, subst (λ z. Chain (Wired Plain (s k)) z n) i (one (Wired Plain (s k)) m n (record { from = own; to = mine; meets = meets_in s u from to h a k m n own meet })))
step_inside s u from to h a k j m n p c d meet (as_rail l side net i) =
    let e = one_of s u from to h a l j m (end_conducts Plain (s l) _ m net) c in
    let mine : SameNet Plain (s j) (rail h (from j) side) m = subst (λ z. SameNet Plain (s z) (rail h (from z) side) m) e net in
    let more : SameNet Plain (s j) (rail h (from j) side) n = net_both Plain (s j) _ m n mine (record { conducts = c; chain = one (Wired Plain (s j)) m n (record { from = c; to = d; meets = meets_in s u from to h a j m n c meet }) }) in
    (p, as_rail j side more i, none (Wired Plain (s k)) p p refl)

-- over a seam
step_over : {X : Type 0} (s : X → List Shape) (u : List Shape) (from to : X → ℤ) (h : ℤ) → AreBeside s u from to h → (k i j : X) (m n p : Site) → Conducts (s i) m → OverSeam s from h i j m n → StandsFor s from h k m p → (q : Site) × StandsFor s from h k n q × Chain (Wired Plain (s k)) p q
step_over s u from to h a k i j m n p c o (itself own e) =
    let f = one_of s u from to h a i k m c own in
    let mine : SameNet Plain (s k) (rail h (from k) o.side) m = subst (λ z. SameNet Plain (s z) (rail h (from z) o.side) m) f o.first in
    (rail h (from k) o.side, as_rail j o.side o.second refl, subst (λ z. Chain (Wired Plain (s k)) z (rail h (from k) o.side)) e (net_back Plain (s k) _ m mine).chain)
step_over s u from to h a k i j m n p c o (as_rail l side net e) =
    let f = one_of s u from to h a l i m (end_conducts Plain (s l) _ m net) c in
    let mine : SameNet Plain (s i) (rail h (from i) side) m = subst (λ z. SameNet Plain (s z) (rail h (from z) side) m) f net in
    let g = two_sides s u from to h a i side o.side m mine o.first in
    (p, as_rail j side (subst (λ z. SameNet Plain (s j) (rail h (from j) z) n) (sym g) o.second) e, none (Wired Plain (s k)) p p refl)

step : {X : Type 0} (s : X → List Shape) (u : List Shape) (from to : X → ℤ) (h : ℤ) → AreBeside s u from to h → (k : X) (m n p : Site) → Wired Plain u m n → StandsFor s from h k m p → (q : Site) × StandsFor s from h k n q × Chain (Wired Plain (s k)) p q
step {X} s u from to h a k m n p w is = by (a.apart i j) w.meets
  where
    i : X
    i = (a.parts m.kind m.cell.x m.cell.y w.from).0

    j : X
    j = (a.parts n.kind n.cell.x n.cell.y w.to).0

    c : Conducts (s i) m
    c = (a.parts m.kind m.cell.x m.cell.y w.from).1

    d : Conducts (s j) n
    d = (a.parts n.kind n.cell.x n.cell.y w.to).1

    other : (to i ≤ℤ from j) ⊎ (to j ≤ℤ from i) → i ≡ j → ⊥
    other r e =
        let l = a.lies i m.kind m.cell.x m.cell.y c in
        let k = subst (λ z. IsColumn (from z) (to z) n.cell.x) (sym e) (a.lies j n.kind n.cell.x n.cell.y d) in
        elim r [ inl o ↦ (let f : to i ≤ℤ from i = subst (λ z. to i ≤ℤ from z) (sym e) o in omega (arith, ints, f)) | inr o ↦ (let f : to i ≤ℤ from i = subst (λ z. to z ≤ℤ from i) (sym e) o in omega (arith, ints, f)) ]

    by : (i ≡ j) ⊎ ((to i ≤ℤ from j) ⊎ (to j ≤ℤ from i)) → Meets Plain u m n → (q : Site) × StandsFor s from h k n q × Chain (Wired Plain (s k)) p q
    by (inl e) meet = step_inside s u from to h a k j m n p (subst (λ z. Conducts (s z) m) e c) d meet is
    by (inr r) (along e edge) = step_over s u from to h a k i j m n p c (seam s u from to h a i j m n (other r) c d e edge) is
    by (inr r) (through e t) = absurd (other r (one_column s u from to h a i j m.cell.x (a.lies i m.kind m.cell.x m.cell.y c) (subst (λ (z : Cell). IsColumn (from j) (to j) z.x) (sym e) (a.lies j n.kind n.cell.x n.cell.y d))))
    by (inr r) (tied e z) = absurd (cc e)

-- Two sites of one net are of one drawing and one net of it, or each is in its drawing's net of one and the same rail.
pub data AreJoined {X : Type 0} (s : X → List Shape) (from : X → ℤ) (h : ℤ) (k j : X) (m n : Site) : Type 0 where
  inside : k ≡ j → SameNet Plain (s k) m n → AreJoined s from h k j m n
  by_rail : (side : Side) → SameNet Plain (s k) m (rail h (from k) side) → SameNet Plain (s j) (rail h (from j) side) n → AreJoined s from h k j m n

pub row_nets : {X : Type 0} (s : X → List Shape) (u : List Shape) (from to : X → ℤ) (h : ℤ) → AreBeside s u from to h → (k j : X) (m n : Site) → Conducts (s k) m → Conducts (s j) n → SameNet Plain u m n → AreJoined s from h k j m n
row_nets s u from to h a k j m n c d net =
    let f = followed (Wired Plain u) (Wired Plain (s k)) (StandsFor s from h k) (step s u from to h a k) net.chain.count m n m net.chain.steps (itself c refl) in
    by f.0 f.1 (record { conducts = c; chain = f.2 })
  where
    by : (q : Site) → StandsFor s from h k n q → SameNet Plain (s k) m q → AreJoined s from h k j m n
    by q (itself own e) chain = inside (one_of s u from to h a k j n own d) (subst (λ z. SameNet Plain (s k) m z) (sym e) chain)
    by q (as_rail l side there e) chain = by_rail side (subst (λ z. SameNet Plain (s k) m z) e chain) (subst (λ z. SameNet Plain (s z) (rail h (from z) side) n) (one_of s u from to h a l j n (end_conducts Plain (s l) _ n there) d) there)

-- what is one net of a drawing is one net of all
pub net_kept : {X : Type 0} (s : X → List Shape) (u : List Shape) (from to : X → ℤ) (h : ℤ) → AreBeside s u from to h → (i : X) (m n : Site) → SameNet Plain (s i) m n → SameNet Plain u m n
net_kept s u from to h a i m n c = record {
  conducts = a.whole i m.kind m.cell.x m.cell.y c.conducts;
  chain = carried_steps (Wired Plain (s i)) (Wired Plain u) (λ (z : Site). z) (λ p q w. record { from = a.whole i p.kind p.cell.x p.cell.y w.from; to = a.whole i q.kind q.cell.x q.cell.y w.to; meets = meets p q w.meets }) c.chain.count m n c.chain.steps;
}
  where
    joins_up : (x y : ℤ) (k l : Conductor) → Joins (s i) x y k l → Joins u x y k l
    joins_up x y k l (by_contact e lower on) = by_contact e lower (a.contacts_up i x y on)
    joins_up x y k l (by_via e f on) = by_via e f (a.vias_up i x y on)

    meets : (p q : Site) → Meets Plain (s i) p q → Meets Plain u p q
    meets p q (along e edge) = along e edge
    meets p q (through e (inl j)) = through e (inl (joins_up p.cell.x p.cell.y p.kind q.kind j))
    meets p q (through e (inr j)) = through e (inr (joins_up p.cell.x p.cell.y q.kind p.kind j))
    meets p q (tied e z) = absurd (cc e)
