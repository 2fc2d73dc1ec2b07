-- Labels of a drawing belong to the same conductor cells with taps as without.
use Rattle.std.proofs.Common.{◌≡◌, ◌↔◌, ℕ, ℤ, pos, ◌≤ℤ◌, ◌-ℤ◌, List, [], ◌∷◌, inl, inr, ◌⊎◌, refl, sym, subst, ap, ◌∙◌, arith}
use Rattle.std.specs.List.{Contains}
use Rattle.std.proofs.lemmas.Int.{ints}
use Rattle.box_geom.specs.Touching.{Cell}
use Rattle.box_geom.specs.declared.layer.Layer.{Layer}
use Rattle.box_geom.specs.declared.layer.Layer.TheVariants.{Well, Active}
use Rattle.box_geom.specs.declared.shape.Label.{Label}
use Rattle.box_geom.specs.declared.shape.Shape.{Shape}
use Rattle.box_geom.specs.declared.shape.Shapes.{Shapes}
use Rattle.scmos_rules.specs.Layout.{On}
use Rattle.scmos_rules.specs.declared.rules.Deck.{Deck}
use Rattle.scmos_rules.specs.declared.rules.Deck.TheVariants.{Plain}
use Rattle.net_extract.specs.Labels.{IsConductorAt, IsFirstConductor, cells_round, Belongs, IsNamed}
use Rattle.net_extract.specs.Nets.{layer_of, Are, Site, site_at, Conducts, SameNet}
use Rattle.net_extract.specs.declared.piece.Conductor.{Conductor}
use Rattle.net_extract.specs.declared.piece.Conductor.TheVariants.{PDiffusion, NDiffusion, Poly, Metal1, Metal2}
use Rattle.net_extract.proofs.Belonging.{one_site}
use Rattle.net_extract.proofs.Wiring.{net_both}
use Rattle.cell_draw.specs.Named.{AreNamed}
use Rattle.well_tap.proofs.TapCells.{IsTap, IsDiffusion, AreTapped}
use Rattle.well_tap.proofs.TapNets.{conducts_up, active_of, not_both, net_up, net_down}

-- what conducts with taps did so before, or is a tap
pub are_down : (s t : List Shape) (h : ℤ) → AreTapped s t h → (k : Conductor) (x y : ℤ) → Are t k x y → Are s k x y ⊎ (IsDiffusion k × IsTap h y)
are_down s t h a PDiffusion x y c = elim (a.active x y c.0.0) [ inl old ↦ inl ((old, λ q. c.0.1 ((a.on_poly x y).1 q)), well old (a.well x y c.1)) | inr tap ↦ inr (inl refl, tap) ]
  where
    well : On Active s x y → On Well s x y ⊎ (h ≤ℤ y) → On Well s x y
    well old (inl w) = w
    well old (inr le) = absurd (let i = a.actives_inner x y old in omega (arith, ints))
are_down s t h a NDiffusion x y c = elim (a.active x y c.0.0) [ inl old ↦ inl ((old, λ q. c.0.1 ((a.on_poly x y).1 q)), λ w. c.1 (a.well_up x y w)) | inr tap ↦ inr (inr refl, tap) ]
are_down s t h a Poly x y c = inl ((a.on_poly x y).0 c)
are_down s t h a Metal1 x y c = inl ((a.on_metal1 x y).0 c)
are_down s t h a Metal2 x y c = inl ((a.on_metal2 x y).0 c)

-- ---- labels
-- all of the cells are of this row or of the one below it
abbrev InRows : ℤ → List Cell → Type 0
InRows z [] = Unit {0}
InRows z (c ∷ cs) = (((z -ℤ pos 1) ≤ℤ c.y) × (c.y ≤ℤ z)) × InRows z cs

round_rows : (x y : ℤ) → InRows y (cells_round x y)
round_rows x y = ((omega (arith, ints), omega (arith, ints)), ((omega (arith, ints), omega (arith, ints)), ((omega (arith, ints), omega (arith, ints)), ((omega (arith, ints), omega (arith, ints)), tt))))

record IsAt (s : List Shape) (layer : Layer) (z : ℤ) (b : Site) : Type 0 where
  pub on_layer : layer_of b.kind ≡ layer
  pub conducts : Conducts s b
  pub low : (z -ℤ pos 1) ≤ℤ b.cell.y
  pub high : b.cell.y ≤ℤ z

conductor_at : (s : List Shape) (layer : Layer) (z : ℤ) (c : Cell) (b : Site) → (z -ℤ pos 1) ≤ℤ c.y → c.y ≤ℤ z → IsConductorAt s layer c b → IsAt s layer z b
conductor_at s layer z c b low high i = record { on_layer = i.on_layer; conducts = i.conducts; low = subst (λ (d : Cell). (z -ℤ pos 1) ≤ℤ d.y) (sym i.cell) low; high = subst (λ (d : Cell). d.y ≤ℤ z) (sym i.cell) high }

first_at : (s : List Shape) (layer : Layer) (z : ℤ) (cells : List Cell) (b : Site) → InRows z cells → IsFirstConductor s layer cells b → IsAt s layer z b
first_at s layer z [] b rows f = absurd f
first_at s layer z (c ∷ cs) b rows (inl i) = conductor_at s layer z c b rows.0.0 rows.0.1 i
first_at s layer z (c ∷ cs) b rows (inr (none, rest)) = first_at s layer z cs b rows.1 rest

pub belongs_conducts : (s : List Shape) (l : Label) (b : Site) → Belongs s l b → Conducts s b
belongs_conducts s l b f = (first_at s l.layer l.y (cells_round l.x l.y) b (round_rows l.x l.y) f).conducts

pub label_layer : (s : List Shape) (l : Label) (b : Site) → Belongs s l b → layer_of b.kind ≡ l.layer
label_layer s l b f = (first_at s l.layer l.y (cells_round l.x l.y) b (round_rows l.x l.y) f).on_layer

-- diffusion is of its layer alone
of_active : (k : Conductor) → layer_of k ≡ Active → IsDiffusion k
of_active PDiffusion e = inl refl
of_active NDiffusion e = inr refl
of_active Poly e = absurd cc
of_active Metal1 e = absurd cc
of_active Metal2 e = absurd cc

to_active : (k : Conductor) → IsDiffusion k → layer_of k ≡ Active
to_active k (inl e) = ap layer_of e
to_active k (inr e) = ap layer_of e

-- near a conductor cell of the layer no tap is
none_up : (s t : List Shape) (h : ℤ) → AreTapped s t h → (layer : Layer) (z : ℤ) (c : Cell) (b : Site) → IsAt s layer z b → (z -ℤ pos 1) ≤ℤ c.y → c.y ≤ℤ z → ((d : Site) → IsConductorAt s layer c d → ⊥) → (d : Site) → IsConductorAt t layer c d → ⊥
none_up s t h a layer z c b at low high none d i = elim (are_down s t h a d.kind d.cell.x d.cell.y i.conducts) [
  | inl old ↦ none d (record { cell = i.cell; on_layer = i.on_layer; conducts = old })
  | inr tap ↦ let k = conductor_at t layer z c d low high i in
      let kind = of_active b.kind (at.on_layer ∙ (sym i.on_layer ∙ to_active d.kind tap.0)) in
      let one = at.low in
      let two = at.high in
      let three = k.low in
      let four = k.high in
      not_both s t h a b.cell.y d.cell.y (a.actives_inner b.cell.x b.cell.y (active_of s b.kind b.cell.x b.cell.y kind at.conducts)) tap.1 (omega (arith, ints, one, two, three, four)) (omega (arith, ints, one, two, three, four))
]

first_up : (s t : List Shape) (h : ℤ) → AreTapped s t h → (layer : Layer) (z : ℤ) (cells : List Cell) (b : Site) → InRows z cells → IsAt s layer z b → IsFirstConductor s layer cells b → IsFirstConductor t layer cells b
first_up s t h a layer z [] b rows at f = absurd f
first_up s t h a layer z (c ∷ cs) b rows at (inl i) = inl (record { cell = i.cell; on_layer = i.on_layer; conducts = conducts_up s t h a b.kind b.cell.x b.cell.y i.conducts })
first_up s t h a layer z (c ∷ cs) b rows at (inr (none, rest)) = inr (none_up s t h a layer z c b at rows.0.0 rows.0.1 none, first_up s t h a layer z cs b rows.1 at rest)

pub belongs_up : (s t : List Shape) (h : ℤ) → AreTapped s t h → (l : Label) (b : Site) → Belongs s l b → Belongs t l b
belongs_up s t h a l b f = first_up s t h a l.layer l.y (cells_round l.x l.y) b (round_rows l.x l.y) (first_at s l.layer l.y (cells_round l.x l.y) b (round_rows l.x l.y) f) f

abbrev pub with_labels : List Shape → List Label → Shapes
with_labels s labels = record { rects = s; labels = labels }

pub named_up : (deck : Deck) (s t : List Shape) (h : ℤ) → AreTapped s t h → (labels : List Label) (name : List ℕ) (b : Site) → IsNamed Plain (with_labels s labels) name b → IsNamed deck (with_labels t labels) name b
named_up deck s t h a labels name b n = record { label = n.label; listed = n.listed; reads = n.reads; at = n.at; belongs = belongs_up s t h a n.label n.at n.belongs; same = net_up deck s t h a n.at b n.same }

-- a tap is named as its rail
pub named_tap : (deck : Deck) (s t : List Shape) (h : ℤ) → AreTapped s t h → (labels : List Label) (name : List ℕ) (k : Conductor) (x y : ℤ) → IsDiffusion k → Are t k x y → IsTap h y → IsNamed Plain (with_labels s labels) name (site_at Metal1 x y) → IsNamed deck (with_labels t labels) name (site_at k x y)
named_tap deck s t h a labels name k x y d c tap n =
    let up = named_up deck s t h a labels name (site_at Metal1 x y) n in
    record { label = up.label; listed = up.listed; reads = up.reads; at = up.at; belongs = up.belongs; same = net_both deck t up.at (site_at Metal1 x y) (site_at k x y) up.same (a.linked deck k x y d c tap) }

-- metal of the rail is over every tap
pub rail_over : (s t : List Shape) (h : ℤ) → AreTapped s t h → (k : Conductor) (x y : ℤ) → IsDiffusion k → Are t k x y → IsTap h y → Conducts s (site_at Metal1 x y)
rail_over s t h a k x y d c (inl low) = let on = active_of t k x y d c in (a.low_rail x y x y on on low low).conducts
rail_over s t h a k x y d c (inr high) = let on = active_of t k x y d c in (a.high_rail x y x y on on high high).conducts

-- the names of nets stay
pub names_up : (deck : Deck) (s t : List Shape) (h : ℤ) → AreTapped s t h → (labels : List Label) (names : List (List ℕ)) → AreNamed Plain names (with_labels s labels) → AreNamed deck names (with_labels t labels)
names_up deck s t h a labels names n = record {
  belong = λ l c. let i = n.belong l c in record { site = i.site; belongs = belongs_up s t h a l i.site i.belongs };
  known = n.known;
  all = n.all;
  apart = apart;
  every = every;
}
  where
    own : (l : Label) (c : Contains labels l) (p : Site) → Belongs t l p → (n.belong l c).site ≡ p
    own l c p b = one_site t l (n.belong l c).site p (belongs_up s t h a l (n.belong l c).site (n.belong l c).belongs) b

    down : (l : Label) (c : Contains labels l) (p : Site) → Belongs t l p → Belongs s l p
    down l c p b = subst (Belongs s l) (own l c p b) (n.belong l c).belongs

    apart : (l m : Label) (p q : Site) → Contains labels l → Contains labels m → Belongs t l p → Belongs t m q → SameNet deck t p q ↔ l.name ≡ m.name
    apart l m p q cl cm bp bq =
        let dp = down l cl p bp in
        let dq = down m cm q bq in
        let same = n.apart l m p q cl cm dp dq in (
          λ net. same.0 (net_down deck s t h a p q (belongs_conducts s l p dp) (belongs_conducts s m q dq) net),
          λ e. net_up deck s t h a p q (same.1 e),
        )

    every : (p : Site) → Conducts t p → (name : List ℕ) × IsNamed deck (with_labels t labels) name p
    every p c = elim (are_down s t h a p.kind p.cell.x p.cell.y c) [
      | inl old ↦ let z = n.every p old in (z.0, named_up deck s t h a labels z.0 p z.1)
      | inr tap ↦ let z = n.every (site_at Metal1 p.cell.x p.cell.y) (rail_over s t h a p.kind p.cell.x p.cell.y tap.0 c tap.1) in (z.0, named_tap deck s t h a labels z.0 p.kind p.cell.x p.cell.y tap.0 c tap.1 z.1)
    ]
