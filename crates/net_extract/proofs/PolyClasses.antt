-- The nets of a set of cells drawn in poly are the classes of its cells.
use Rattle.std.proofs.Common.{◌≡◌, ◌==◌, ℤ, true, false, List, [], ◌∷◌, arith, inl, inr, refl, sym, subst, ◌∙◌}
use Rattle.std.proofs.lemmas.Bool.{cases_eq, ne_eqb}
use Rattle.box_geom.specs.Rectangle.{Rectangle, Holds, Covers}
use Rattle.box_geom.specs.Touching.{Cell, Edge}
use Rattle.box_geom.specs.Chains.{Chain, Linked}
use Rattle.box_geom.specs.declared.shape.Shape.{Shape}
use Rattle.box_geom.specs.declared.layer.Layer.{Layer}
use Rattle.box_geom.specs.declared.layer.Layer.TheVariants.{Active, Contact, Metal1 as Metal1Layer, Via, Metal2 as Metal2Layer}
use Rattle.box_geom.specs.Layers.{same_layer, layer_no}
use Rattle.scmos_rules.specs.Failing.{SameClass}
use Rattle.scmos_rules.specs.Layout.{On}
use Rattle.scmos_rules.specs.declared.rules.Deck.TheVariants.{Plain, Taps}
use Rattle.net_extract.specs.Nets.{Joins, by_contact, by_via, Site, site_at, Are, Meets, along, through, tied, Wired, SameNet}
use Rattle.net_extract.specs.declared.piece.Conductor.{Conductor}
use Rattle.net_extract.specs.declared.piece.Conductor.TheVariants.{PDiffusion, NDiffusion, Poly, Metal1, Metal2}
use Rattle.net_extract.specs.declared.connections.Wire.{Wire}
use Rattle.net_extract.specs.declared.piece.Piece.{Piece}
use Rattle.net_extract.specs.GateNets.{ArePolyOf, AreWellNets, AreWells}
use Rattle.number_trees.proofs.Chains.{turned}
use Rattle.scmos_rules.proofs.Chains.{inside, flip_linked}
use Rattle.cell_num.proofs.Lists.{contains_here}
use Rattle.net_extract.proofs.Bonds.{carried_steps}
use Rattle.net_extract.proofs.Covering.{cover_none, cover_split}
use Rattle.net_extract.proofs.Finding.{shows}

layer_same : (l k : Layer) → same_layer l k ≡ true → layer_no l ≡ layer_no k
layer_same l k e = elim (cases_eq (layer_no l) (layer_no k)) [ inl same ↦ same | inr ne ↦ absurd (let f : (layer_no l == layer_no k) ≡ false = ne_eqb (layer_no l) (layer_no k) ne in cc (sym f ∙ e)) ]

pub only_poly : (P : ℤ → ℤ → Type 0) (g : List Shape) → ArePolyOf P g → (layer : Layer) (x y : ℤ) → On layer g x y → 4 ≡ layer_no layer
only_poly P g are layer x y on =
    let w = shows g layer x y on in
    let e : layer_no w.shape.layer ≡ layer_no layer = layer_same w.shape.layer layer w.on in
    subst (λ l. layer_no l ≡ layer_no layer) (are.only w.shape w.listed) e

pub poly_site : (P : ℤ → ℤ → Type 0) (g : List Shape) → ArePolyOf P g → (k : Conductor) (x y : ℤ) → Are g k x y → k ≡ Poly
poly_site P g are PDiffusion x y c = absurd (let e = only_poly P g are Active x y c.0.0 in omega (arith, e))
poly_site P g are NDiffusion x y c = absurd (let e = only_poly P g are Active x y c.0.0 in omega (arith, e))
poly_site P g are Poly x y c = refl
poly_site P g are Metal1 x y c = absurd (let e = only_poly P g are Metal1Layer x y c in omega (arith, e))
poly_site P g are Metal2 x y c = absurd (let e = only_poly P g are Metal2Layer x y c in omega (arith, e))

gate_there : (P : ℤ → ℤ → Type 0) (g : List Shape) → ArePolyOf P g → (k : Conductor) (x y : ℤ) → Are g k x y → P x y
gate_there P g are k x y c = (are.poly x y).0 (subst (λ j. Are g j x y) (poly_site P g are k x y c) c)

no_joins : (P : ℤ → ℤ → Type 0) (g : List Shape) → ArePolyOf P g → (x y : ℤ) (k l : Conductor) → Joins g x y k l → ⊥
no_joins P g are x y k l (by_contact e low on) = let f = only_poly P g are Contact x y on in omega (arith, f)
no_joins P g are x y k l (by_via e f on) = let h = only_poly P g are Via x y on in omega (arith, h)

gate_link : (P : ℤ → ℤ → Type 0) (g : List Shape) → ArePolyOf P g → (a b : Site) → Wired Plain g a b → Linked P a.cell b.cell
gate_link P g are a b w = record { from = gate_there P g are a.kind a.cell.x a.cell.y w.from; to = gate_there P g are b.kind b.cell.x b.cell.y w.to; edge = edge_of w.meets }
  where
    edge_of : Meets Plain g a b → Edge a.cell b.cell
    edge_of (along e edge) = edge
    edge_of (through e (inl j)) = absurd (no_joins P g are a.cell.x a.cell.y a.kind b.kind j)
    edge_of (through e (inr j)) = absurd (no_joins P g are a.cell.x a.cell.y b.kind a.kind j)
    edge_of (tied e t) = absurd (cc e)

abbrev poly_at : Cell → Site
poly_at c = record { kind = Poly; cell = c }

link_gate : (P : ℤ → ℤ → Type 0) (g : List Shape) → ArePolyOf P g → (c d : Cell) → Linked P c d → Wired Plain g (poly_at c) (poly_at d)
link_gate P g are c d l = record { from = (are.poly c.x c.y).1 l.from; to = (are.poly d.x d.y).1 l.to; meets = along refl l.edge }

abbrev pub cell : ℤ → ℤ → Cell
cell x y = record { x = x; y = y }

pub class_of_net : (P : ℤ → ℤ → Type 0) (g : List Shape) → ArePolyOf P g → (x y u v : ℤ) → SameNet Plain g (site_at Poly x y) (site_at Poly u v) → SameClass P x y u v
class_of_net P g are x y u v n = carried_steps (Wired Plain g) (Linked P) (λ (a : Site). a.cell) (gate_link P g are) n.chain.count (site_at Poly x y) (site_at Poly u v) n.chain.steps

pub net_of_class : (P : ℤ → ℤ → Type 0) (g : List Shape) → ArePolyOf P g → (x y u v : ℤ) → P x y → SameClass P x y u v → SameNet Plain g (site_at Poly x y) (site_at Poly u v)
net_of_class P g are x y u v here c = record { conducts = (are.poly x y).1 here; chain = carried_steps (Linked P) (Wired Plain g) poly_at (link_gate P g are) c.count (cell x y) (cell u v) c.steps }

-- two cells of a rectangle of the set's cells
pub same_class : (P : ℤ → ℤ → Type 0) (r : Rectangle) → ((x y : ℤ) → Holds r x y → P x y) → (x y u v : ℤ) → Holds r x y → Holds r u v → SameClass P x y u v
same_class P r all x y u v h k =
    let c : Chain (Linked (Covers (r ∷ []))) (cell x y) (cell u v) = inside (r ∷ []) r (contains_here r []) x y u v h k in
    carried_steps (Linked (Covers (r ∷ []))) (Linked P) (λ (d : Cell). d) (λ d e w. record { from = all d.x d.y (only d.x d.y w.from); to = all e.x e.y (only e.x e.y w.to); edge = w.edge }) c.count (cell x y) (cell u v) c.steps
  where
    only : (x y : ℤ) → Covers (r ∷ []) x y → Holds r x y
    only x y c = elim (cover_split r [] x y c) [ inl h ↦ h | inr n ↦ absurd (cover_none x y n) ]

pub class_back : (P : ℤ → ℤ → Type 0) (x y u v : ℤ) → SameClass P x y u v → SameClass P u v x y
class_back P x y u v c = turned (Linked P) (flip_linked P) (cell x y) (cell u v) c

-- ---- wells by a deck
pub no_wells : (s : List Shape) (wires : List Wire) → AreWells Plain s wires
no_wells s wires = record { nets = λ e. absurd (cc e) }

pub have_wells : (s : List Shape) (wires : List Wire) (firsts : List Piece) → AreWellNets s wires firsts → AreWells Taps s wires
have_wells s wires firsts nets = record { nets = λ e. record { firsts = firsts; nets = nets } }

pub ruleset well_rules = (no_wells, have_wells)
