-- Taps leave the nets of a drawing as they are: seen from them, a cell of a tap is the rail above it.
use Rattle.std.proofs.Common.{◌≡◌, ℤ, pos, ◌≤ℤ◌, ◌+ℤ◌, List, arith, inl, inr, ◌⊎◌, refl, sym, subst}
use Rattle.std.proofs.lemmas.Int.{ints}
use Rattle.box_geom.specs.Touching.{Cell, Edge, to_right, to_left, upward, downward}
use Rattle.box_geom.specs.Chains.{Chain}
use Rattle.box_geom.specs.declared.shape.Shape.{Shape}
use Rattle.box_geom.specs.declared.layer.Layer.TheVariants.{Well, Active}
use Rattle.scmos_rules.specs.Layout.{On}
use Rattle.scmos_rules.specs.declared.rules.Deck.{Deck}
use Rattle.scmos_rules.specs.declared.rules.Deck.TheVariants.{Plain}
use Rattle.number_trees.proofs.Chains.{none, one, turned, followed}
use Rattle.scmos_rules.proofs.Chains.{flip_edge}
use Rattle.net_extract.specs.Nets.{Site, site_at, Are, Conducts, IsLower, of_p, of_n, of_poly, Joins, by_contact, by_via, Tied, by_well, by_substrate, Meets, along, through, tied, Wired, SameNet}
use Rattle.net_extract.specs.declared.piece.Conductor.{Conductor}
use Rattle.net_extract.specs.declared.piece.Conductor.TheVariants.{PDiffusion, NDiffusion, Poly, Metal1, Metal2}
use Rattle.well_tap.proofs.TapCells.{IsTap, IsInner, IsDiffusion, AreTapped}
use Rattle.net_extract.proofs.Bonds.{carried_steps}

-- ---- upward: what conducts and what is wired without taps is so with them
pub conducts_up : (s t : List Shape) (h : ℤ) → AreTapped s t h → (k : Conductor) (x y : ℤ) → Are s k x y → Are t k x y
conducts_up s t h a PDiffusion x y c = ((a.active_up x y c.0.0, λ q. c.0.1 ((a.on_poly x y).0 q)), a.well_up x y c.1)
conducts_up s t h a NDiffusion x y c = ((a.active_up x y c.0.0, λ q. c.0.1 ((a.on_poly x y).0 q)), λ w. out (a.well x y w))
  where
    out : On Well s x y ⊎ (h ≤ℤ y) → ⊥
    out (inl w) = c.1 w
    out (inr le) = let i = a.actives_inner x y c.0.0 in omega (arith, ints)
conducts_up s t h a Poly x y c = (a.on_poly x y).1 c
conducts_up s t h a Metal1 x y c = (a.on_metal1 x y).1 c
conducts_up s t h a Metal2 x y c = (a.on_metal2 x y).1 c

joins_up : (s t : List Shape) (h : ℤ) → AreTapped s t h → (x y : ℤ) (k l : Conductor) → Joins s x y k l → Joins t x y k l
joins_up s t h a x y k l (by_contact e low on) = by_contact e low (a.contact_up x y on)
joins_up s t h a x y k l (by_via e f on) = by_via e f ((a.on_via x y).1 on)

meets_up : (deck : Deck) (s t : List Shape) (h : ℤ) → AreTapped s t h → (m n : Site) → Meets Plain s m n → Meets deck t m n
meets_up deck s t h a m n (along e edge) = along e edge
meets_up deck s t h a m n (through e (inl j)) = through e (inl (joins_up s t h a m.cell.x m.cell.y m.kind n.kind j))
meets_up deck s t h a m n (through e (inr j)) = through e (inr (joins_up s t h a m.cell.x m.cell.y n.kind m.kind j))
meets_up deck s t h a m n (tied e z) = absurd (cc e)

pub net_up : (deck : Deck) (s t : List Shape) (h : ℤ) → AreTapped s t h → (m n : Site) → SameNet Plain s m n → SameNet deck t m n
net_up deck s t h a m n c = record {
  conducts = conducts_up s t h a m.kind m.cell.x m.cell.y c.conducts;
  chain = carried_steps (Wired Plain s) (Wired deck t) (λ (z : Site). z) (λ p q w. record { from = conducts_up s t h a p.kind p.cell.x p.cell.y w.from; to = conducts_up s t h a q.kind q.cell.x q.cell.y w.to; meets = meets_up deck s t h a p q w.meets }) c.chain.count m n c.chain.steps;
}

-- ---- downward: a site of the drawing stands for itself, a tap for the rail above it
pub data StandsFor (s t : List Shape) (h : ℤ) (m p : Site) : Type 0 where
  itself : Conducts s m → m ≡ p → StandsFor s t h m p
  as_rail : IsDiffusion m.kind → On Active t m.cell.x m.cell.y → IsTap h m.cell.y → p ≡ site_at Metal1 m.cell.x m.cell.y → StandsFor s t h m p

record Stands (s t : List Shape) (h : ℤ) (m : Site) : Type 0 where
  pub for : Site
  pub is : StandsFor s t h m for

stands : (s t : List Shape) (h : ℤ) → AreTapped s t h → (m : Site) (k : Conductor) → m.kind ≡ k → Are t k m.cell.x m.cell.y → Stands s t h m
stands s t h a m PDiffusion e c = by (a.active m.cell.x m.cell.y c.0.0)
  where
    by : On Active s m.cell.x m.cell.y ⊎ IsTap h m.cell.y → Stands s t h m
    by (inr tap) = record { for = site_at Metal1 m.cell.x m.cell.y; is = as_rail (inl e) c.0.0 tap refl }
    by (inl old) = record { for = m; is = itself (subst (λ k. Are s k m.cell.x m.cell.y) (sym e) ((old, λ q. c.0.1 ((a.on_poly m.cell.x m.cell.y).1 q)), well (a.well m.cell.x m.cell.y c.1))) refl }
      where
        well : On Well s m.cell.x m.cell.y ⊎ (h ≤ℤ m.cell.y) → On Well s m.cell.x m.cell.y
        well (inl w) = w
        well (inr le) = absurd (let i = a.actives_inner m.cell.x m.cell.y old in omega (arith, ints))
stands s t h a m NDiffusion e c = by (a.active m.cell.x m.cell.y c.0.0)
  where
    by : On Active s m.cell.x m.cell.y ⊎ IsTap h m.cell.y → Stands s t h m
    by (inr tap) = record { for = site_at Metal1 m.cell.x m.cell.y; is = as_rail (inr e) c.0.0 tap refl }
    by (inl old) = record { for = m; is = itself (subst (λ k. Are s k m.cell.x m.cell.y) (sym e) ((old, λ q. c.0.1 ((a.on_poly m.cell.x m.cell.y).1 q)), λ w. c.1 (a.well_up m.cell.x m.cell.y w))) refl }
stands s t h a m Poly e c = record { for = m; is = itself (subst (λ k. Are s k m.cell.x m.cell.y) (sym e) ((a.on_poly m.cell.x m.cell.y).0 c)) refl }
stands s t h a m Metal1 e c = record { for = m; is = itself (subst (λ k. Are s k m.cell.x m.cell.y) (sym e) ((a.on_metal1 m.cell.x m.cell.y).0 c)) refl }
stands s t h a m Metal2 e c = record { for = m; is = itself (subst (λ k. Are s k m.cell.x m.cell.y) (sym e) ((a.on_metal2 m.cell.x m.cell.y).0 c)) refl }

-- a site of diffusion without taps lies between the rails
pub active_of : (s : List Shape) (k : Conductor) (x y : ℤ) → IsDiffusion k → Are s k x y → On Active s x y
active_of s k x y (inl e) c = (subst (λ z. Are s z x y) e c).0.0
active_of s k x y (inr e) c = (subst (λ z. Are s z x y) e c).0.0

lower_inner : (s t : List Shape) (h : ℤ) → AreTapped s t h → (k l : Conductor) (x y : ℤ) → IsLower l → k ≡ l → Are s k x y → IsInner h y
lower_inner s t h a k l x y of_p e c = a.actives_inner x y (active_of s k x y (inl e) c)
lower_inner s t h a k l x y of_n e c = a.actives_inner x y (active_of s k x y (inr e) c)
lower_inner s t h a k l x y of_poly e c = a.polys_inner x y (subst (λ z. Are s z x y) e c)

pub not_both : (s t : List Shape) (h : ℤ) → AreTapped s t h → (y z : ℤ) → IsInner h y → IsTap h z → z ≤ℤ (y +ℤ pos 1) → y ≤ℤ (z +ℤ pos 1) → ⊥
not_both s t h a y z i (inl l) up down = omega (arith, ints)
not_both s t h a y z i (inr l) up down = omega (arith, ints)

edge_near : (m n : Cell) → Edge m n → (m.y ≤ℤ (n.y +ℤ pos 1)) × (n.y ≤ℤ (m.y +ℤ pos 1))
edge_near m n (to_right e f) = (omega (arith, ints, f), omega (arith, ints, f))
edge_near m n (to_left e f) = (omega (arith, ints, f), omega (arith, ints, f))
edge_near m n (upward e f) = (omega (arith, ints, f), omega (arith, ints, f))
edge_near m n (downward e f) = (omega (arith, ints, f), omega (arith, ints, f))

-- over one rail
rails : (s t : List Shape) (h : ℤ) → AreTapped s t h → (x y u v : ℤ) → On Active t x y → On Active t u v → IsTap h y → IsTap h v → v ≤ℤ (y +ℤ pos 1) → y ≤ℤ (v +ℤ pos 1) → SameNet Plain s (site_at Metal1 x y) (site_at Metal1 u v)
rails s t h a x y u v c k (inl p) (inl q) up down = a.low_rail x y u v c k p q
rails s t h a x y u v c k (inr p) (inr q) up down = a.high_rail x y u v c k p q
rails s t h a x y u v c k (inl p) (inr q) up down = let tall = a.tall in absurd (omega (arith, ints))
rails s t h a x y u v c k (inr p) (inl q) up down = let tall = a.tall in absurd (omega (arith, ints))

record Next (s t : List Shape) (h : ℤ) (n p : Site) : Type 0 where
  pub for : Site
  pub is : StandsFor s t h n for
  pub chain : Chain (Wired Plain s) p for

to_next : (s t : List Shape) (h : ℤ) (n p q : Site) → StandsFor s t h n q → Chain (Wired Plain s) p q → Next s t h n p
to_next s t h n p q is chain = record { for = q; is = is; chain = chain }

wire : (s : List Shape) (m n p q : Site) → Conducts s m → Conducts s n → Meets Plain s m n → m ≡ p → n ≡ q → Chain (Wired Plain s) p q
wire s m n p q c k meet e f = subst (λ z. Chain (Wired Plain s) z q) e (subst (λ z. Chain (Wired Plain s) m z) f (one (Wired Plain s) m n (record { from = c; to = k; meets = meet })))

-- along an edge
step_along : (s t : List Shape) (h : ℤ) → AreTapped s t h → (m n p q : Site) → m.kind ≡ n.kind → Edge m.cell n.cell → StandsFor s t h m p → StandsFor s t h n q → Chain (Wired Plain s) p q
step_along s t h a m n p q e edge (itself c i) (itself k j) = wire s m n p q c k (along e edge) i j
step_along s t h a m n p q e edge (as_rail d on tap i) (as_rail g other top j) =
    let near = edge_near m.cell n.cell edge in
    subst (λ z. Chain (Wired Plain s) z q) (sym i) (subst (λ z. Chain (Wired Plain s) (site_at Metal1 m.cell.x m.cell.y) z) (sym j) (rails s t h a m.cell.x m.cell.y n.cell.x n.cell.y on other tap top near.1 near.0).chain)
step_along s t h a m n p q e edge (itself c i) (as_rail g other top j) =
    let near = edge_near m.cell n.cell edge in
    absurd (not_both s t h a m.cell.y n.cell.y (a.actives_inner m.cell.x m.cell.y (active_of s m.kind m.cell.x m.cell.y (elim g [ inl f ↦ inl (let r : m.kind ≡ PDiffusion = subst (λ z. m.kind ≡ z) f e in r) | inr f ↦ inr (let r : m.kind ≡ NDiffusion = subst (λ z. m.kind ≡ z) f e in r) ]) c)) top near.1 near.0)
step_along s t h a m n p q e edge (as_rail d on tap i) (itself k j) =
    let near = edge_near m.cell n.cell edge in
    absurd (not_both s t h a n.cell.y m.cell.y (a.actives_inner n.cell.x n.cell.y (active_of s n.kind n.cell.x n.cell.y (elim d [ inl f ↦ inl (let r : n.kind ≡ PDiffusion = subst (λ z. z ≡ PDiffusion) e f in r) | inr f ↦ inr (let r : n.kind ≡ NDiffusion = subst (λ z. z ≡ NDiffusion) e f in r) ]) k)) tap near.0 near.1)

-- through a contact or a via in one place, from the upper kind to the lower one
no_rail : (s t : List Shape) (h : ℤ) (m p : Site) (k : Conductor) → m.kind ≡ k → (k ≡ PDiffusion → ⊥) → (k ≡ NDiffusion → ⊥) → StandsFor s t h m p → Conducts s m × (m ≡ p)
no_rail s t h m p k e not_p not_n (itself c i) = (c, i)
no_rail s t h m p k e not_p not_n (as_rail (inl f) on tap i) = absurd (not_p (subst (λ z. z ≡ PDiffusion) e f))
no_rail s t h m p k e not_p not_n (as_rail (inr f) on tap i) = absurd (not_n (subst (λ z. z ≡ NDiffusion) e f))

same_site : (m n : Site) → m.kind ≡ Metal1 → m.cell ≡ n.cell → m ≡ site_at Metal1 n.cell.x n.cell.y
same_site m n e f = subst (λ k. m ≡ record { kind = k; cell = n.cell }) e (subst (λ c. m ≡ record { kind = m.kind; cell = c }) f refl)

step_joins : (s t : List Shape) (h : ℤ) → AreTapped s t h → (m n p q : Site) → m.cell ≡ n.cell → Joins t m.cell.x m.cell.y m.kind n.kind → StandsFor s t h m p → StandsFor s t h n q → Chain (Wired Plain s) p q
step_joins s t h a m n p q e (by_contact up low on) is (itself k j) =
    let first = no_rail s t h m p Metal1 up (λ z. absurd (cc z)) (λ z. absurd (cc z)) is in
    let there : Are s n.kind m.cell.x m.cell.y = subst (λ (c : Cell). Are s n.kind c.x c.y) (sym e) k in
    wire s m n p q first.0 k (through e (inl (by_contact up low (elim (a.contact m.cell.x m.cell.y on) [ inl o ↦ o | inr tap ↦ absurd (not_both s t h a m.cell.y m.cell.y (lower_inner s t h a n.kind n.kind m.cell.x m.cell.y low refl there) tap (omega (arith, ints)) (omega (arith, ints))) ])))) first.1 j
step_joins s t h a m n p q e (by_contact up low on) is (as_rail g other top j) =
    let first = no_rail s t h m p Metal1 up (λ z. absurd (cc z)) (λ z. absurd (cc z)) is in
    subst (λ z. Chain (Wired Plain s) z q) first.1 (none (Wired Plain s) m q (let f = same_site m n up e in cc))
step_joins s t h a m n p q e (by_via up low on) is other =
    let first = no_rail s t h m p Metal2 up (λ z. absurd (cc z)) (λ z. absurd (cc z)) is in
    let second = no_rail s t h n q Metal1 low (λ z. absurd (cc z)) (λ z. absurd (cc z)) other in
    wire s m n p q first.0 second.0 (through e (inl (by_via up low ((a.on_via m.cell.x m.cell.y).0 on)))) first.1 second.1

flip_stands : (s : List Shape) (p q : Site) → Chain (Wired Plain s) p q → Chain (Wired Plain s) q p
flip_stands s p q c = turned (Wired Plain s) back p q c
  where
    other : (m n : Cell) → Edge m n → Edge n m
    other = flip_edge

    meets : (m n : Site) → Meets Plain s m n → Meets Plain s n m
    meets m n (along e edge) = along (sym e) (other m.cell n.cell edge)
    meets m n (through e (inl j)) = through (sym e) (inr (subst (λ (c : Cell). Joins s c.x c.y m.kind n.kind) e j))
    meets m n (through e (inr j)) = through (sym e) (inl (subst (λ (c : Cell). Joins s c.x c.y n.kind m.kind) e j))
    meets m n (tied e z) = absurd (cc e)

    back : (m n : Site) → Wired Plain s m n → Wired Plain s n m
    back m n w = record { from = w.to; to = w.from; meets = meets m n w.meets }

-- over a tie both are taps of one rail
rail_of : (s t : List Shape) (h : ℤ) → AreTapped s t h → (m p : Site) (k : Conductor) → IsDiffusion k → m.kind ≡ k → IsTap h m.cell.y → StandsFor s t h m p → p ≡ site_at Metal1 m.cell.x m.cell.y
rail_of s t h a m p k d e tap (as_rail g on top i) = i
rail_of s t h a m p k d e tap (itself c i) = absurd (not_both s t h a m.cell.y m.cell.y (a.actives_inner m.cell.x m.cell.y (active_of s k m.cell.x m.cell.y d (subst (λ z. Are s z m.cell.x m.cell.y) e c))) tap (omega (arith, ints)) (omega (arith, ints)))

step_tied : (s t : List Shape) (h : ℤ) → AreTapped s t h → (m n p q : Site) → Conducts t m → Conducts t n → Tied t m n → StandsFor s t h m p → StandsFor s t h n q → Chain (Wired Plain s) p q
step_tied s t h a m n p q cm cn (by_well e f om on class) is other =
    let am = subst (λ z. Are t z m.cell.x m.cell.y) e cm in
    let an = subst (λ z. Are t z n.cell.x n.cell.y) f cn in
    let hm = a.well_taps m.cell.x m.cell.y am.0.0 am.1 om in
    let hn = a.well_taps n.cell.x n.cell.y an.0.0 an.1 on in
    subst (λ z. Chain (Wired Plain s) z q) (sym (rail_of s t h a m p PDiffusion (inl refl) e (inr hm) is))
    (subst (λ z. Chain (Wired Plain s) (site_at Metal1 m.cell.x m.cell.y) z) (sym (rail_of s t h a n q PDiffusion (inl refl) f (inr hn) other))
    (a.high_rail m.cell.x m.cell.y n.cell.x n.cell.y am.0.0 an.0.0 hm hn).chain)
step_tied s t h a m n p q cm cn (by_substrate e f om on) is other =
    let am = subst (λ z. Are t z m.cell.x m.cell.y) e cm in
    let an = subst (λ z. Are t z n.cell.x n.cell.y) f cn in
    let hm = a.substrate_taps m.cell.x m.cell.y am.0.0 am.1 om in
    let hn = a.substrate_taps n.cell.x n.cell.y an.0.0 an.1 on in
    subst (λ z. Chain (Wired Plain s) z q) (sym (rail_of s t h a m p NDiffusion (inr refl) e (inl hm) is))
    (subst (λ z. Chain (Wired Plain s) (site_at Metal1 m.cell.x m.cell.y) z) (sym (rail_of s t h a n q NDiffusion (inr refl) f (inl hn) other))
    (a.low_rail m.cell.x m.cell.y n.cell.x n.cell.y am.0.0 an.0.0 hm hn).chain)

step_meets : (deck : Deck) (s t : List Shape) (h : ℤ) → AreTapped s t h → (m n p q : Site) → Conducts t m → Conducts t n → Meets deck t m n → StandsFor s t h m p → StandsFor s t h n q → Chain (Wired Plain s) p q
step_meets deck s t h a m n p q cm cn (along e edge) is other = step_along s t h a m n p q e edge is other
step_meets deck s t h a m n p q cm cn (through e (inl j)) is other = step_joins s t h a m n p q e j is other
step_meets deck s t h a m n p q cm cn (through e (inr j)) is other = flip_stands s q p (step_joins s t h a n m q p (sym e) (subst (λ (c : Cell). Joins t c.x c.y n.kind m.kind) e j) other is)
step_meets deck s t h a m n p q cm cn (tied e z) is other = step_tied s t h a m n p q cm cn z is other

step : (deck : Deck) (s t : List Shape) (h : ℤ) → AreTapped s t h → (m n p : Site) → Wired deck t m n → StandsFor s t h m p → (q : Site) × StandsFor s t h n q × Chain (Wired Plain s) p q
step deck s t h a m n p w is =
    let next = stands s t h a n n.kind refl w.to in
    (next.for, next.is, step_meets deck s t h a m n p next.for w.from w.to w.meets is next.is)

own_place : (s t : List Shape) (h : ℤ) → AreTapped s t h → (n q : Site) → Conducts s n → StandsFor s t h n q → n ≡ q
own_place s t h a n q c (itself k i) = i
own_place s t h a n q c (as_rail g on tap i) = absurd (not_both s t h a n.cell.y n.cell.y (a.actives_inner n.cell.x n.cell.y (active_of s n.kind n.cell.x n.cell.y g c)) tap (omega (arith, ints)) (omega (arith, ints)))

-- Two sites of the drawing that are of one net with taps are so without them.
pub net_down : (deck : Deck) (s t : List Shape) (h : ℤ) → AreTapped s t h → (m n : Site) → Conducts s m → Conducts s n → SameNet deck t m n → SameNet Plain s m n
net_down deck s t h a m n cm cn c =
    let f = followed (Wired deck t) (Wired Plain s) (StandsFor s t h) (step deck s t h a) c.chain.count m n m c.chain.steps (itself cm refl) in
    record { conducts = cm; chain = subst (λ z. Chain (Wired Plain s) m z) (sym (own_place s t h a n f.0 cn f.1)) f.2 }
