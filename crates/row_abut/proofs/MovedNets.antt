-- Nets of shapes moved to the right, and the labels on them.
use Rattle.std.proofs.Common.{◌≡◌, ℤ, pos, neg_ℤ, ◌+ℤ◌, ◌-ℤ◌, List, [], ◌∷◌, inl, inr, arith, sym, subst, ap, ◌∙◌}
use Rattle.std.proofs.lemmas.Int.{ints}
use Rattle.box_geom.specs.Touching.{Cell}
use Rattle.box_geom.specs.declared.layer.Layer.{Layer}
use Rattle.box_geom.specs.declared.layer.Layer.TheVariants.{Well, Poly as PolyLayer, Contact, Metal1 as Metal1Layer, Via, Metal2 as Metal2Layer}
use Rattle.box_geom.specs.declared.shape.Label.{Label}
use Rattle.box_geom.specs.declared.shape.Shape.{Shape}
use Rattle.scmos_rules.specs.Layout.{On, Diffusion}
use Rattle.scmos_rules.specs.declared.rules.Deck.TheVariants.{Plain}
use Rattle.net_extract.specs.Labels.{IsConductorAt, IsFirstConductor, cells_round, Belongs}
use Rattle.net_extract.specs.Nets.{Are, Site, site_at, Conducts, Joins, by_contact, by_via, Meets, along, through, tied, Wired, SameNet}
use Rattle.net_extract.specs.declared.piece.Conductor.{Conductor}
use Rattle.net_extract.specs.declared.piece.Conductor.TheVariants.{PDiffusion, NDiffusion, Poly, Metal1, Metal2}
use Rattle.net_extract.proofs.Bonds.{carried_steps}
use Rattle.row_abut.proofs.Moved.{AreMoved, diffusion}
use Rattle.row_abut.proofs.Shifts.{AreShifted, up, both, not, moved_cell, moved_edge}

-- to the left again
pub back : (by : ℤ) (s t : List Shape) → AreMoved by s t → AreMoved (neg_ℤ by) t s
back by s t a = record { on = λ layer. record { same = λ x z y e. let k = (a.on layer).same z x y (omega (arith, ints, e)) in (k.1, k.0) } }

abbrev pub moved_site : ℤ → Site → Site
moved_site by a = record { kind = a.kind; cell = moved_cell by a.cell }

-- there and back
pub site_back : (by : ℤ) (a : Site) → moved_site (neg_ℤ by) (moved_site by a) ≡ a
site_back by a = ap (λ x. record { kind = a.kind; cell = record { x = x; y = a.cell.y } }) (let e : a.cell.x +ℤ by +ℤ neg_ℤ by ≡ a.cell.x = omega (arith, ints) in e)

pub site_there : (by : ℤ) (a : Site) → moved_site by (moved_site (neg_ℤ by) a) ≡ a
site_there by a = ap (λ x. record { kind = a.kind; cell = record { x = x; y = a.cell.y } }) (let e : a.cell.x +ℤ neg_ℤ by +ℤ by ≡ a.cell.x = omega (arith, ints) in e)

pub moved_at : (by : ℤ) (k : Conductor) (x y : ℤ) → moved_site by (site_at k (x -ℤ by) y) ≡ site_at k x y
moved_at by k x y = ap (λ z. site_at k z y) (let e : x -ℤ by +ℤ by ≡ x = omega (arith, ints) in e)

pub are : (by : ℤ) (s t : List Shape) → AreMoved by s t → (k : Conductor) → AreShifted by (Are s k) (Are t k)
are by s t a PDiffusion = both by (Diffusion s) (Diffusion t) (On Well s) (On Well t) (diffusion by s t a) (a.on Well)
are by s t a NDiffusion = both by (Diffusion s) (Diffusion t) (λ x y. On Well s x y → ⊥) (λ x y. On Well t x y → ⊥) (diffusion by s t a) (not by (On Well s) (On Well t) (a.on Well))
are by s t a Poly = a.on PolyLayer
are by s t a Metal1 = a.on Metal1Layer
are by s t a Metal2 = a.on Metal2Layer

pub conducts : (by : ℤ) (s t : List Shape) → AreMoved by s t → (a : Site) → Conducts s a → Conducts t (moved_site by a)
conducts by s t m a c = up by (Are s a.kind) (Are t a.kind) (are by s t m a.kind) a.cell.x a.cell.y c

joins : (by : ℤ) (s t : List Shape) → AreMoved by s t → (x y : ℤ) (k l : Conductor) → Joins s x y k l → Joins t (x +ℤ by) y k l
joins by s t m x y k l (by_contact e low on) = by_contact e low (up by (On Contact s) (On Contact t) (m.on Contact) x y on)
joins by s t m x y k l (by_via e f on) = by_via e f (up by (On Via s) (On Via t) (m.on Via) x y on)

meets : (by : ℤ) (s t : List Shape) → AreMoved by s t → (a b : Site) → Meets Plain s a b → Meets Plain t (moved_site by a) (moved_site by b)
meets by s t m a b (along e edge) = along e (moved_edge by a.cell b.cell edge)
meets by s t m a b (through e (inl j)) = through (ap (moved_cell by) e) (inl (joins by s t m a.cell.x a.cell.y a.kind b.kind j))
meets by s t m a b (through e (inr j)) = through (ap (moved_cell by) e) (inr (joins by s t m a.cell.x a.cell.y b.kind a.kind j))
meets by s t m a b (tied e z) = absurd (cc e)

pub net : (by : ℤ) (s t : List Shape) → AreMoved by s t → (a b : Site) → SameNet Plain s a b → SameNet Plain t (moved_site by a) (moved_site by b)
net by s t m a b n = record {
  conducts = conducts by s t m a n.conducts;
  chain = carried_steps (Wired Plain s) (Wired Plain t) (moved_site by) (λ p q w. record { from = conducts by s t m p w.from; to = conducts by s t m q w.to; meets = meets by s t m p q w.meets }) n.chain.count a b n.chain.steps;
}

pub net_back_moved : (by : ℤ) (s t : List Shape) → AreMoved by s t → (a b : Site) → SameNet Plain t (moved_site by a) (moved_site by b) → SameNet Plain s a b
net_back_moved by s t m a b n =
    subst (λ z. SameNet Plain s z b) (site_back by a) (subst (λ z. SameNet Plain s (moved_site (neg_ℤ by) (moved_site by a)) z) (site_back by b)
    (net (neg_ℤ by) t s (back by s t m) (moved_site by a) (moved_site by b) n))

-- ---- labels
-- the cells of the second list are those of the first, moved
abbrev AreMovedCells : ℤ → List Cell → List Cell → Type 0
AreMovedCells by [] [] = Unit {0}
AreMovedCells by (c ∷ cs) (d ∷ ds) = (moved_cell by c ≡ d) × AreMovedCells by cs ds
AreMovedCells by _ _ = ⊥

conductor_at : (by : ℤ) (s t : List Shape) → AreMoved by s t → (layer : Layer) (c d : Cell) (a : Site) → moved_cell by c ≡ d → IsConductorAt s layer c a → IsConductorAt t layer d (moved_site by a)
conductor_at by s t m layer c d a e i = record { cell = ap (moved_cell by) i.cell ∙ e; on_layer = i.on_layer; conducts = conducts by s t m a i.conducts }

none_there : (by : ℤ) (s t : List Shape) → AreMoved by s t → (layer : Layer) (c d : Cell) → moved_cell by c ≡ d → ((b : Site) → IsConductorAt s layer c b → ⊥) → (b : Site) → IsConductorAt t layer d b → ⊥
none_there by s t m layer c d e none b i = none (moved_site (neg_ℤ by) b) (conductor_at (neg_ℤ by) t s (back by s t m) layer d c b f i)
  where
    f : moved_cell (neg_ℤ by) d ≡ c
    f = subst (λ z. moved_cell (neg_ℤ by) z ≡ c) e (ap (λ x. record { x = x; y = c.y }) (let g : c.x +ℤ by +ℤ neg_ℤ by ≡ c.x = omega (arith, ints) in g))

first_there : (by : ℤ) (s t : List Shape) → AreMoved by s t → (layer : Layer) (cs ds : List Cell) (a : Site) → AreMovedCells by cs ds → IsFirstConductor s layer cs a → IsFirstConductor t layer ds (moved_site by a)
first_there by s t m layer [] ds a z f = absurd f
first_there by s t m layer (c ∷ cs) [] a z f = absurd z
first_there by s t m layer (c ∷ cs) (d ∷ ds) a z (inl i) = inl (conductor_at by s t m layer c d a z.0 i)
first_there by s t m layer (c ∷ cs) (d ∷ ds) a z (inr (none, rest)) = inr (none_there by s t m layer c d z.0 none, first_there by s t m layer cs ds a z.1 rest)

round_there : (by x y z : ℤ) → z ≡ x +ℤ by → AreMovedCells by (cells_round x y) (cells_round z y)
round_there by x y z e =
    let here : x +ℤ by ≡ z = sym e in
    let left : x -ℤ pos 1 +ℤ by ≡ z -ℤ pos 1 = omega (arith, ints, e) in
    (ap (λ v. record { x = v; y = y }) here, (ap (λ v. record { x = v; y = y }) left, (ap (λ v. record { x = v; y = y -ℤ pos 1 }) here, (ap (λ v. record { x = v; y = y -ℤ pos 1 }) left, tt))))

-- a label that is moved with the shapes, whatever its name
pub record IsMovedLabel (by : ℤ) (l m : Label) : Type 0 where
  pub layer : m.layer ≡ l.layer
  pub x : m.x ≡ l.x +ℤ by
  pub y : m.y ≡ l.y

pub belongs : (by : ℤ) (s t : List Shape) → AreMoved by s t → (l m : Label) (a : Site) → IsMovedLabel by l m → Belongs s l a → Belongs t m (moved_site by a)
belongs by s t k l m a i b =
    subst (λ layer. IsFirstConductor t layer (cells_round m.x m.y) (moved_site by a)) (sym i.layer)
    (subst (λ y. IsFirstConductor t l.layer (cells_round m.x y) (moved_site by a)) (sym i.y)
    (first_there by s t k l.layer (cells_round l.x l.y) (cells_round m.x l.y) a (round_there by l.x l.y m.x i.x) b))
